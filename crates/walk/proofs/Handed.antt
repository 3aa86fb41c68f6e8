-- Lists of pins that are handed in: each word below a bound, and stops that are set one by one.
use mathlib.Core.Path.{◌≡◌, refl, sym, ap, subst, ◌∙◌}
use mathlib.Core.Bool.{Bool, true, false, not, ◌&&◌}
use mathlib.Core.List.{List, [], ◌∷◌, ◌++◌}
use Prim.Native.Nat.{ℕ, ◌+◌, ◌*◌, ◌<◌, ◌≤◌}
use native.Mathlib.Numerals.{add-one}
use native.Mathlib.Omega.{arith}
use borrow.Author.Tests.{eqb-true, eqb-false, eq-eqb, ne_eqb, lt-ltb, le-ltb, not-true}
use lib.ListN.{length, get_or, take, set, length-set}
use lib.Seq.{take-suc, take_all, get_or-set_other}
use Rattle.std.specs.Prelude.{◌==◌}
use Rattle.laws.specs.Tests.{◌<?◌, one}
use Rattle.laws.specs.Lists.{count, member}
use Rattle.laws.specs.Words.{AllBelow}
use Rattle.laws.proofs.Tests.{by_test, bits_same, both_true, and_l, and_r, and-false, one_true, one_eq, one_ne, one_le}
use Rattle.laws.proofs.Bags.{member_true, member_false, no_member, member_last, member_other, every_true, every_all, count-append}
use Rattle.laws.proofs.Indices.{every_entry, every_fails}
use Rattle.laws.proofs.Words.{get_d_set, word_below}
use Rattle.rules.specs.Refusals.{below, no_repeat}
use Rattle.walk.specs.State.{Stops, StopsSet}

-- ---- each word below m, as far as i
pub record Below (m : ℕ) (s : List ℕ) (i : ℕ) : Type 0 where
  pub so_far : (j : ℕ) → j < i → get_or s j 0 < m

pub below_begins : (m : ℕ) (s : List ℕ) → Below m s 0
below_begins m s = record { so_far = λ j l. absurd (omega arith) }

pub below_goes_on : (m : ℕ) (s : List ℕ) (i x : ℕ) → Below m s i → x ≡ get_or s i 0 → x < m → Below m s (i + 1)
below_goes_on m s i x b e h = record {
  so_far = λ j l. by_test (j == i)
      (λ t. subst (λ (n : ℕ). get_or s n 0 < m) (sym (eqb-true j i t)) (omega arith))
      (λ f. b.so_far j (omega (arith, eqb-false j i f)));
}

pub below_fails : (m : ℕ) (s : List ℕ) (i x : ℕ) → i < length s → x ≡ get_or s i 0 → m ≤ x → false ≡ below m s
below_fails m s i x l e h = sym (every_fails (λ y. y <? m) 0 s i l (le-ltb (get_or s i 0) m (omega arith)))

pub below_ends : (m : ℕ) (s : List ℕ) (i : ℕ) → Below m s i → length s ≤ i → true ≡ below m s
below_ends m s i b h = sym (every_entry (λ y. y <? m) 0 s (λ k l. lt-ltb (get_or s k 0) m (b.so_far k (omega arith))))

-- ---- no repeats: each stands at most once, and one more may join that does not stand yet
pub once_all : (l : List ℕ) → no_repeat l ≡ true → (x : ℕ) → count x l ≤ 1
once_all l e x = by_test (member x l)
    (λ t. omega (arith, eqb-true (count x l) 1 (every_true (λ y. count y l == 1) x l e (member_true x l t))))
    (λ f. omega (arith, member_false x l f))

pub all_once : (l : List ℕ) → ((x : ℕ) → count x l ≤ 1) → no_repeat l ≡ true
all_once l h = every_all (λ y. count y l == 1) l (λ x m. eq-eqb (count x l) 1 (omega (arith, h x, m)))

module _ (l : List ℕ) (x : ℕ) where
  abbrev more : List ℕ
  more = l ++ (x ∷ [])

  fewer : no_repeat more ≡ true → (no_repeat l && not (member x l)) ≡ true
  fewer e = both_true (no_repeat l) (not (member x l))
      (all_once l (λ y. omega (arith, once_all more e y, count-append y l (x ∷ []))))
      (ap not (no_member x l (omega (arith, once_all more e x, count-append x l (x ∷ []), one_eq x x refl))))

  further : (no_repeat l && not (member x l)) ≡ true → no_repeat more ≡ true
  further e =
      let old = once_all l (and_l (no_repeat l) (not (member x l)) e) in
      let new = member_false x l (not-true (member x l) (and_r (no_repeat l) (not (member x l)) e)) in
      all_once more (λ y. by_test (y == x)
      (λ t. omega (arith, count-append y l (x ∷ []), one_le (y == x), new, ap (λ (z : ℕ). count z l) (eqb-true y x t)))
      (λ f. omega (arith, count-append y l (x ∷ []), old y, one_ne y x (eqb-false y x f))))

  pub repeat_more : no_repeat more ≡ (no_repeat l && not (member x l))
  repeat_more = bits_same (no_repeat more) (no_repeat l && not (member x l)) fewer further

-- ---- the stops of the first i are set, and n of those repeat
pub record Setting (m : ℕ) (handed w : List ℕ) (i : ℕ) (w' : List ℕ) (n : ℕ) : Type 0 where
  pub answer : (n == 0) ≡ no_repeat (take i handed)
  pub few : n ≤ i
  pub long : length w' ≡ length w
  pub stops : Stops w' m (take i handed)
  pub before : (j : ℕ) → j < m → get_or w' j 0 ≡ get_or w j 0
  pub after : (j : ℕ) → 2 * m ≤ j → get_or w' j 0 ≡ get_or w j 0

pub setting_begins : (m : ℕ) (handed w : List ℕ) → Stops w m [] → Setting m handed w 0 w 0
setting_begins m handed w s = record { answer = refl; few = omega arith; long = refl; stops = s; before = λ j l. refl; after = λ j l. refl }

sum_zero : (n : ℕ) (b : Bool) → (n + one b == 0) ≡ ((n == 0) && not b)
sum_zero n true = ne_eqb (n + 1) 0 (λ z. omega (arith, z)) ∙ sym (and-false (n == 0))
sum_zero n false = (let e : n + 0 ≡ n = omega arith in ap (λ (x : ℕ). x == 0) e) ∙ sym (and-true (n == 0))
  where
    and-true : (b : Bool) → (b && true) ≡ b
    and-true true = refl
    and-true false = refl

module _ (m : ℕ) (handed w : List ℕ) (i : ℕ) (w' : List ℕ) (n p met : ℕ) (below-m : AllBelow m handed) (b : Setting m handed w i w' n) (l : i < length handed)
    (e : p ≡ get_or handed i 0) where
  pub pin_in : p < m
  pin_in = word_below m handed i p below-m l e

  pub stop_at : 2 * m ≤ length w → m + p < length w'
  stop_at h = omega (arith, pin_in, b.long)

  module _ (f : met ≡ get_or w' (m + p) 0) where
    met_is : met ≡ one (member p (take i handed))
    met_is = f ∙ b.stops.stop p pin_in

    pub met_low : met ≤ 1
    met_low = omega (arith, met_is, one_le (member p (take i handed)))

    taken : take (i + 1) handed ≡ take i handed ++ (p ∷ [])
    taken = ap (λ (k : ℕ). take k handed) (add-one i) ∙ take-suc handed i 0 l ∙ ap (λ (x : ℕ). take i handed ++ (x ∷ [])) (sym e)

    stop_more : 2 * m ≤ length w → (q : ℕ) → q < m → get_or (set w' (m + p) 1) (m + q) 0 ≡ one (member q (take (i + 1) handed))
    stop_more h q a = get_d_set w' (m + p) (m + q) 1 (λ (x : ℕ). x ≡ one (member q (take (i + 1) handed))) (stop_at h)
        (λ y. let z : q ≡ p = omega arith in
        sym (one_true (member q (take (i + 1) handed)) (ap (member q) (taken ∙ ap (λ (x : ℕ). take i handed ++ (x ∷ [])) (sym z)) ∙ member_last q (take i handed))))
        (λ y. b.stops.stop q a ∙ ap one (sym (member_other p q (take i handed) (λ z. y (omega (arith, z)))) ∙ ap (member q) (sym taken)))

    pub setting_goes_on : 2 * m ≤ length w → Setting m handed w (i + 1) (set w' (m + p) 1) (n + met)
    setting_goes_on h =
        let pl = pin_in in
        record {
          answer = ap (λ (x : ℕ). n + x == 0) met_is ∙ sum_zero n (member p (take i handed))
              ∙ ap (λ (x : Bool). x && not (member p (take i handed))) b.answer ∙ sym (repeat_more (take i handed) p) ∙ ap no_repeat (sym taken);
          few = omega (arith, met_low, b.few);
          long = length-set w' (m + p) 1 ∙ b.long;
          stops = record { stop = stop_more h };
          before = λ j a. get_or-set_other w' (m + p) j 1 0 (omega arith) ∙ b.before j a;
          after = λ j a. get_or-set_other w' (m + p) j 1 0 (omega arith) ∙ b.after j a;
        }

pub setting_ends : (m : ℕ) (handed w : List ℕ) (i : ℕ) (w' : List ℕ) (n : ℕ) → Setting m handed w i w' n → length handed ≤ i → StopsSet m handed w w' (n == 0)
setting_ends m handed w i w' n b l =
    let e = take_all i handed l in
    record {
      answer = b.answer ∙ ap no_repeat e;
      long = b.long;
      stops = subst (λ (s : List ℕ). Stops w' m s) e b.stops;
      before = b.before;
      after = b.after;
    }
