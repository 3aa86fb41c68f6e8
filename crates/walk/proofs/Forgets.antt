-- A list of pins is forgotten, the first of it first.
use mathlib.Core.Path.{◌≡◌, refl, sym, ap, subst, ◌∙◌}
use mathlib.Core.List.{List, [], ◌∷◌, ◌++◌}
use Prim.Native.Nat.{ℕ, ◌+◌, ◌*◌, ◌<◌, ◌≤◌}
use native.Mathlib.Omega.{arith}
use borrow.Author.Tests.{ltb-true, ltb-false}
use lib.ListN.{length, get_or, set, length-set}
use lib.Seq.{get_or-set_other}
use Rattle.laws.specs.Tests.{one, ◌<?◌}
use Rattle.laws.specs.Lists.{count, member}
use Rattle.laws.proofs.Tests.{by_test, one_eq}
use Rattle.laws.proofs.Bags.{member_true, member_false, count-append, at_head, of_append}
use Rattle.laws.proofs.Words.{part_none, part_suc, zero_there, zero_stays, get_d_set}
use Rattle.walk.specs.State.{list_of, Listing, Going, Kept, Forgotten}
use Rattle.walk.proofs.Visits.{walk_begins}

-- the first i of the pins that v lists are forgotten
pub record Forgetting (m : ℕ) (v : List ℕ) (i : ℕ) (w : List ℕ) : Type 0 where
  pub long : length w ≡ length v
  pub gone : (p : ℕ) → p < m → 0 < count p (list_of v m i) → get_or w p 0 ≡ 0
  pub here : (p : ℕ) → p < m → count p (list_of v m i) ≡ 0 → get_or w p 0 ≡ get_or v p 0
  pub between : (j : ℕ) → m ≤ j → j < 3 * m → get_or w j 0 ≡ get_or v j 0
  pub list : (j : ℕ) → 3 * m ≤ j → j < 3 * m + i → get_or w j 0 ≡ 0
  pub rest : (j : ℕ) → 3 * m + i ≤ j → get_or w j 0 ≡ get_or v j 0

pub forget_begins : (m : ℕ) (w : List ℕ) → Forgetting m w 0 w
forget_begins m w = record {
  long = refl;
  gone = λ p l c. absurd (omega (arith, c, ap (count p) (part_none w (3 * m))));
  here = λ p l c. refl;
  between = λ j a b. refl;
  list = λ j a b. absurd (omega arith);
  rest = λ j a. refl;
}

module _ (m : ℕ) (v : List ℕ) (k i : ℕ) (w : List ℕ) (p : ℕ) (g : Listing m v k) (f : Forgetting m v i w) (l : i < k) (e : p ≡ get_or w (3 * m + i) 0) where
  pin_is : p ≡ get_or v (3 * m + i) 0
  pin_is = e ∙ f.rest (3 * m + i) (omega arith)

  pub pin_in : p < m
  pin_in = omega (arith, g.inside i l, pin_is)

  pub pin_at_lem : p < length w
  pin_at_lem = let a = pin_in in omega (arith, f.long)

  pub place_at : 3 * m + i < length w
  place_at = omega (arith, f.long)

  more : list_of v m (i + 1) ≡ list_of v m i ++ (get_or v (3 * m + i) 0 ∷ [])
  more = part_suc v (3 * m) i (omega arith)

  abbrev w' : List ℕ
  w' = set (set w p 0) (3 * m + i) 0

  other : (j : ℕ) → (j ≡ p → ⊥) → (j ≡ 3 * m + i → ⊥) → get_or w' j 0 ≡ get_or w j 0
  other j a b = get_or-set_other (set w p 0) (3 * m + i) j 0 0 b ∙ get_or-set_other w p j 0 0 a

  here_kept : (q : ℕ) → q < m → count q (list_of v m i ++ (get_or v (3 * m + i) 0 ∷ [])) ≡ 0 → get_or w' q 0 ≡ get_or v q 0
  here_kept q b c =
      let n : count q (list_of v m i) + count q (get_or v (3 * m + i) 0 ∷ []) ≡ 0 = sym (count-append q (list_of v m i) (get_or v (3 * m + i) 0 ∷ [])) ∙ c in
      other q (λ y. omega (arith, n, one_eq q (get_or v (3 * m + i) 0) (y ∙ pin_is))) (omega arith) ∙ f.here q b (omega (arith, n))

  pub forget_goes_on : Forgetting m v (i + 1) w'
  forget_goes_on =
      let pl = pin_in in
      record {
        long = simp length-set f.long;
        gone = λ q b c. of_append q (list_of v m i) (get_or v (3 * m + i) 0 ∷ []) (subst (λ (s : List ℕ). 0 < count q s) more c)
            (λ c'. zero_stays (set w p 0) (3 * m + i) q (zero_stays w p q (f.gone q b c')))
            (λ c'. at_head q (get_or v (3 * m + i) 0) [] c'
            (λ y. zero_stays (set w p 0) (3 * m + i) q (subst (λ (x : ℕ). get_or (set w p 0) x 0 ≡ 0) (pin_is ∙ sym y) (zero_there w p)))
            (λ z. absurd (omega arith)));
        here = λ q b c. here_kept q b (sym (ap (count q) more) ∙ c);
        between = λ j a b. other j (omega arith) (omega arith) ∙ f.between j a b;
        list = λ j a b. get_d_set (set w p 0) (3 * m + i) j 0 (λ (n : ℕ). n ≡ 0) (simp length-set place_at) (λ _. refl)
            (λ n. zero_stays w p j (f.list j a (omega arith)));
        rest = λ j a. other j (omega arith) (omega arith) ∙ f.rest j (omega arith);
      }

pub forget_ends : (m : ℕ) (v : List ℕ) (k i : ℕ) (w : List ℕ) → Listing m v k → Forgetting m v i w → i ≤ k → k ≤ i → Forgotten m v w
forget_ends m v k i w g f a b = record {
  long = f.long;
  marks = λ j l. by_test (member j (list_of v m k))
      (λ t. f.gone j l (subst (λ (n : ℕ). 0 < count j (list_of v m n)) k_is (member_true j (list_of v m k) t)))
      (λ n. f.here j l (subst (λ (x : ℕ). count j (list_of v m x) ≡ 0) k_is (member_false j (list_of v m k) n)) ∙ g.marks j l ∙ ap one n);
  between = f.between;
  list = λ j l u. by_test (j <? 3 * m + i)
      (λ t. f.list j l (ltb-true j (3 * m + i) t))
      (λ n. f.rest j (ltb-false j (3 * m + i) n) ∙ g.after j (omega (arith, ltb-false j (3 * m + i) n)) u);
  rest = λ j l. f.rest j (omega arith);
}
  where
    k_is : k ≡ i
    k_is = omega arith

-- ---- what was forgotten can be walked anew: the stops and the caller's words are as they were
pub forgotten_kept : (m : ℕ) (v w : List ℕ) → Forgotten m v w → Kept m v w
forgotten_kept m v w f = record { long = f.long; stops = λ p l. f.between (m + p) (omega arith) (omega arith); rest = f.rest }

pub forgotten_going : (ws : List ℕ) (m : ℕ) (v : List ℕ) (k : ℕ) (w : List ℕ) → Going ws m v 0 k → Forgotten m v w → Going ws m w 0 0
forgotten_going ws m v k w g f = walk_begins ws m w g.low g.fits g.drivers_long (omega (arith, f.long))
    (λ p l. rw (f.between (m + p) (omega arith) (omega arith)) (g.flags p l)) f.marks
    (λ j l u. by_test (j <? 3 * m)
    (λ t. f.between j (omega arith) (ltb-true j (3 * m) t) ∙ g.above j (omega arith) (ltb-true j (3 * m) t))
    (λ n. f.list j (ltb-false j (3 * m) n) u))
