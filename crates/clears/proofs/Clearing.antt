-- Pins cleared one after the other, and then the set and the walk.
use mathlib.Core.Path.{◌≡◌, refl, sym, ap, subst, ◌∙◌}
use mathlib.Core.Bool.{Bool}
use mathlib.Core.List.{List, [], ◌∷◌, ◌++◌}
use Prim.Native.Nat.{ℕ, ◌+◌, ◌-◌, ◌*◌, ◌<◌, ◌≤◌}
use native.Mathlib.Numerals.{add-one}
use native.Mathlib.Omega.{arith}
use lib.ListN.{length, get_or, take, set, replicate, length-set, length-replicate}
use lib.Seq.{get_or-set_other, take-suc, take_all}
use borrow.Author.Tests.{eqb-true, eqb-false, ltb-true, ltb-false}
use Rattle.std.specs.Prelude.{if◌then◌else◌, ◌==◌}
use Rattle.laws.specs.Tests.{◌<?◌}
use Rattle.laws.specs.Lists.{count, member}
use Rattle.laws.proofs.Tests.{by_test, if_true, if_false}
use Rattle.laws.proofs.Bags.{member_false, member_last, member_other}
use Rattle.laws.proofs.Words.{zero_there, part_length, part_at}
use Rattle.words.specs.Tables.{written}
use Rattle.words.proofs.Tables.{written-length, written-before, written_at, written_after}
use Rattle.walk.specs.State.{list_of, Listing, Forgotten}
use Rattle.members.specs.Set.{Within}
use Rattle.members.proofs.Frames.{within_none, within_on, within-set}
use Rattle.levels.proofs.Stops.{listing_same}
use Rattle.clears.specs.State.{Used, pin_cleared, PinsCleared, Cleared}

-- ---- one pin
module _ (w : List ℕ) (m u : ℕ) (h : 8 * m ≤ length w) (l : u < m) where
  abbrev w₁ : List ℕ
  w₁ = set w (4 * m + u) 0

  abbrev w₂ : List ℕ
  w₂ = set w₁ (5 * m + u) 0

  pub second_inside : 5 * m + u < length (set w (4 * m + u) 0)
  second_inside = omega (arith, length-set w (4 * m + u) 0)

  pub third_inside : 7 * m + u < length (set (set w (4 * m + u) 0) (5 * m + u) 0)
  third_inside = omega (arith, length-set w (4 * m + u) 0, length-set w₁ (5 * m + u) 0)

  pub pin_done : set (set (set w (4 * m + u) 0) (5 * m + u) 0) (7 * m + u) 0 ≡ pin_cleared w m u
  unfolding pin_cleared
  pin_done = refl

  pub pin_kept : Within (4 * m) (8 * m) w (pin_cleared w m u)
  unfolding pin_cleared
  pin_kept = within-set (4 * m) (8 * m) w w₂ (7 * m + u) 0 (omega arith) (omega arith)
      (within-set (4 * m) (8 * m) w w₁ (5 * m + u) 0 (omega arith) (omega arith)
      (within-set (4 * m) (8 * m) w w (4 * m + u) 0 (omega arith) (omega arith) (within_none (4 * m) (8 * m) w)))

  -- the words of a pin in three regions
  pub pin_levels : (p : ℕ) → p < m → get_or (pin_cleared w m u) (4 * m + p) 0 ≡ (if p == u then 0 else get_or w (4 * m + p) 0)
  unfolding pin_cleared
  pin_levels p lp = get_or-set_other w₂ (7 * m + u) (4 * m + p) 0 0 (omega arith) ∙ get_or-set_other w₁ (5 * m + u) (4 * m + p) 0 0 (omega arith)
      ∙ by_test (p == u)
      (λ t. ap (λ (x : ℕ). get_or w₁ (4 * m + x) 0) (eqb-true p u t) ∙ zero_there w (4 * m + u) ∙ sym (if_true (p == u) 0 (get_or w (4 * m + p) 0) t))
      (λ f. get_or-set_other w (4 * m + u) (4 * m + p) 0 0 (λ d. eqb-false p u f (omega arith)) ∙ sym (if_false (p == u) 0 (get_or w (4 * m + p) 0) f))

  pub pin_readers : (p : ℕ) → p < m → get_or (pin_cleared w m u) (5 * m + p) 0 ≡ (if p == u then 0 else get_or w (5 * m + p) 0)
  unfolding pin_cleared
  pin_readers p lp = get_or-set_other w₂ (7 * m + u) (5 * m + p) 0 0 (omega arith)
      ∙ by_test (p == u)
      (λ t. ap (λ (x : ℕ). get_or w₂ (5 * m + x) 0) (eqb-true p u t) ∙ zero_there w₁ (5 * m + u) ∙ sym (if_true (p == u) 0 (get_or w (5 * m + p) 0) t))
      (λ f. get_or-set_other w₁ (5 * m + u) (5 * m + p) 0 0 (λ d. eqb-false p u f (omega arith)) ∙ get_or-set_other w (4 * m + u) (5 * m + p) 0 0 (omega arith)
      ∙ sym (if_false (p == u) 0 (get_or w (5 * m + p) 0) f))

  pub pin_places : (p : ℕ) → p < m → get_or (pin_cleared w m u) (7 * m + p) 0 ≡ (if p == u then 0 else get_or w (7 * m + p) 0)
  unfolding pin_cleared
  pin_places p lp = by_test (p == u)
      (λ t. ap (λ (x : ℕ). get_or (set w₂ (7 * m + u) 0) (7 * m + x) 0) (eqb-true p u t) ∙ zero_there w₂ (7 * m + u) ∙ sym (if_true (p == u) 0 (get_or w (7 * m + p) 0) t))
      (λ f. get_or-set_other w₂ (7 * m + u) (7 * m + p) 0 0 (λ d. eqb-false p u f (omega arith)) ∙ get_or-set_other w₁ (5 * m + u) (7 * m + p) 0 0 (omega arith)
      ∙ get_or-set_other w (4 * m + u) (7 * m + p) 0 0 (omega arith) ∙ sym (if_false (p == u) 0 (get_or w (7 * m + p) 0) f))

  pub pin_between : (j : ℕ) → 6 * m ≤ j → j < 7 * m → get_or (pin_cleared w m u) j 0 ≡ get_or w j 0
  unfolding pin_cleared
  pin_between j a b = get_or-set_other w₂ (7 * m + u) j 0 0 (omega arith) ∙ get_or-set_other w₁ (5 * m + u) j 0 0 (omega arith) ∙ get_or-set_other w (4 * m + u) j 0 0 (omega arith)

-- ---- the first i of the k pins listed
pub record ClearingTo (m : ℕ) (w₀ : List ℕ) (k : ℕ) (w : List ℕ) (i : ℕ) : Type 0 where
  pub inside : i ≤ k
  pub few : k ≤ m
  pub long : 8 * m ≤ length w
  pub listing : Listing m w₀ k
  pub levels : (p : ℕ) → p < m → get_or w (4 * m + p) 0 ≡ (if member p (take i (list_of w₀ m k)) then 0 else get_or w₀ (4 * m + p) 0)
  pub readers : (p : ℕ) → p < m → get_or w (5 * m + p) 0 ≡ (if member p (take i (list_of w₀ m k)) then 0 else get_or w₀ (5 * m + p) 0)
  pub places : (p : ℕ) → p < m → get_or w (7 * m + p) 0 ≡ (if member p (take i (list_of w₀ m k)) then 0 else get_or w₀ (7 * m + p) 0)
  pub between : (j : ℕ) → 6 * m ≤ j → j < 7 * m → get_or w j 0 ≡ get_or w₀ j 0
  pub kept : Within (4 * m) (8 * m) w₀ w
  pub same_length : length w ≡ length w₀

pub clear_begins : (m : ℕ) (w : List ℕ) (k : ℕ) → Listing m w k → 8 * m ≤ length w → ClearingTo m w k w 0
clear_begins m w k s h = record {
  inside = omega arith;
  few = s.count;
  long = h;
  listing = s;
  levels = λ p l. refl;
  readers = λ p l. refl;
  places = λ p l. refl;
  between = λ j a b. refl;
  kept = within_none (4 * m) (8 * m) w;
  same_length = refl;
}

module _ (m : ℕ) (w₀ : List ℕ) (k : ℕ) (w : List ℕ) (i : ℕ) (s : ClearingTo m w₀ k w i) where
  us_long : length (list_of w₀ m k) ≡ k
  us_long = part_length w₀ (3 * m) k (omega (arith, s.listing.long, s.few))

  module _ (l : i < k) (u : ℕ) (q : u ≡ get_or w (3 * m + i) 0) where
    pub clear_inside : u < m
    clear_inside = omega (arith, s.listing.inside i l, q ∙ s.kept.before (3 * m + i) (omega (arith, s.few)))

    done_is : take (i + 1) (list_of w₀ m k) ≡ take i (list_of w₀ m k) ++ (u ∷ [])
    done_is = ap (λ (x : ℕ). take x (list_of w₀ m k)) (add-one i) ∙ take-suc (list_of w₀ m k) i 0 (omega (arith, us_long))
        ∙ ap (λ (x : ℕ). take i (list_of w₀ m k) ++ (x ∷ [])) (sym (q ∙ s.kept.before (3 * m + i) (omega (arith, s.few)) ∙ sym (part_at w₀ (3 * m) k i l)))

    one_more : (p x y : ℕ) → x ≡ (if p == u then 0 else y) → (z : ℕ) → y ≡ (if member p (take i (list_of w₀ m k)) then 0 else z)
        → x ≡ (if member p (take (i + 1) (list_of w₀ m k)) then 0 else z)
    one_more p x y ex z ey = by_test (p == u)
        (λ t. ex ∙ if_true (p == u) 0 y t ∙ sym (if_true (member p (take (i + 1) (list_of w₀ m k))) 0 z
        (ap (member p) done_is ∙ ap (λ (v : ℕ). member v (take i (list_of w₀ m k) ++ (u ∷ []))) (eqb-true p u t) ∙ member_last u (take i (list_of w₀ m k)))))
        (λ f. ex ∙ if_false (p == u) 0 y f ∙ ey ∙ ap (λ (b : Bool). if b then 0 else z) (sym (ap (member p) done_is ∙ member_other u p (take i (list_of w₀ m k)) (eqb-false p u f))))

    pub clear_goes_on : (w' : List ℕ) → w' ≡ pin_cleared w m u → ClearingTo m w₀ k w' (i + 1)
    clear_goes_on w' e = subst (λ (t : List ℕ). ClearingTo m w₀ k t (i + 1)) (sym e) (record {
      inside = omega arith;
      few = s.few;
      long = omega (arith, (pin_kept w m u s.long clear_inside).long, s.long);
      listing = s.listing;
      levels = λ p lp. one_more p (get_or (pin_cleared w m u) (4 * m + p) 0) (get_or w (4 * m + p) 0) (pin_levels w m u s.long clear_inside p lp) (get_or w₀ (4 * m + p) 0) (s.levels p lp);
      readers = λ p lp. one_more p (get_or (pin_cleared w m u) (5 * m + p) 0) (get_or w (5 * m + p) 0) (pin_readers w m u s.long clear_inside p lp) (get_or w₀ (5 * m + p) 0) (s.readers p lp);
      places = λ p lp. one_more p (get_or (pin_cleared w m u) (7 * m + p) 0) (get_or w (7 * m + p) 0) (pin_places w m u s.long clear_inside p lp) (get_or w₀ (7 * m + p) 0) (s.places p lp);
      between = λ j a b. pin_between w m u s.long clear_inside j a b ∙ s.between j a b;
      kept = within_on (4 * m) (8 * m) w₀ w (pin_cleared w m u) s.kept (pin_kept w m u s.long clear_inside);
      same_length = (pin_kept w m u s.long clear_inside).long ∙ s.same_length;
    })

  pub clear_ends : k ≤ i → PinsCleared m w₀ k w
  clear_ends l =
      let e : take i (list_of w₀ m k) ≡ list_of w₀ m k = take_all i (list_of w₀ m k) (omega (arith, us_long)) in
      record {
        levels = λ p lp. s.levels p lp ∙ ap (λ (t : List ℕ). if member p t then 0 else get_or w₀ (4 * m + p) 0) e;
        readers = λ p lp. s.readers p lp ∙ ap (λ (t : List ℕ). if member p t then 0 else get_or w₀ (5 * m + p) 0) e;
        places = λ p lp. s.places p lp ∙ ap (λ (t : List ℕ). if member p t then 0 else get_or w₀ (7 * m + p) 0) e;
        between = s.between;
        kept = s.kept;
      }

-- ---- then the set, and then the walk
module _ (m : ℕ) (w : List ℕ) (k size : ℕ) (s : Used m w k size) (w₁ : List ℕ) (a : PinsCleared m w k w₁) where
  pub set_inside : 6 * m + size ≤ length w₁
  set_inside = omega (arith, a.kept.long, s.holds.few, s.long)

  zero_by : (p x z : ℕ) → x ≡ (if member p (list_of w m k) then 0 else z) → (count p (list_of w m k) ≡ 0 → z ≡ 0) → x ≡ 0
  zero_by p x z e o = by_test (member p (list_of w m k))
      (λ t. e ∙ if_true (member p (list_of w m k)) 0 z t)
      (λ f. e ∙ if_false (member p (list_of w m k)) 0 z f ∙ o (member_false p (list_of w m k) f))

  module _ (w₂ : List ℕ) (e : w₂ ≡ written w₁ (6 * m) (replicate size 0)) where
    rl : length (replicate {A = ℕ} size 0) ≡ size
    rl = length-replicate size 0

    fits : 6 * m + length (replicate {A = ℕ} size 0) ≤ length w₁
    fits = omega (arith, rl, set_inside)

    long₂ : length w₂ ≡ length w
    long₂ = ap length e ∙ written-length w₁ (6 * m) (replicate size 0) fits ∙ a.kept.long

    off : (j : ℕ) → (j < 6 * m → get_or w₂ j 0 ≡ get_or w₁ j 0) × (6 * m + size ≤ j → get_or w₂ j 0 ≡ get_or w₁ j 0)
    off j = (
      (λ l. ap (λ (t : List ℕ). get_or t j 0) e ∙ written-before w₁ (6 * m) (replicate size 0) fits j l),
      λ l. ap (λ (t : List ℕ). get_or t j 0) e ∙ written_after w₁ (6 * m) (replicate size 0) fits j (omega (arith, rl)),
    )

    members₂ : (i : ℕ) → i < m → get_or w₂ (6 * m + i) 0 ≡ 0
    members₂ i l = by_test (i <? size)
        (λ t. let h = ltb-true i size t in ap (λ (v : List ℕ). get_or v (6 * m + i) 0) e ∙ written_at w₁ (6 * m) (replicate size 0) fits i (omega (arith, rl)) ∙ lib.ListN.get_or-replicate size i 0 0 h)
        (λ f. let h = ltb-false i size f in (off (6 * m + i)).1 (omega arith) ∙ a.between (6 * m + i) (omega arith) (omega arith) ∙ s.holds.beyond i h l)

    pub clear_listing : Listing m w₂ k
    clear_listing = listing_same [] m w w₂ k (λ j l. (off j).0 (omega arith) ∙ a.kept.before j (omega arith)) long₂ s.listing

    pub clear_done : (w₃ : List ℕ) → Forgotten m w₂ w₃ → Cleared m w w₃
    clear_done w₃ f = record {
      long = f.long ∙ long₂;
      marks = f.marks;
      stops = λ j l u. f.between j l (omega arith) ∙ (off j).0 (omega arith) ∙ a.kept.before j (omega arith);
      middle = λ j l u. by_test (j <? 3 * m)
          (λ t. let h = ltb-true j (3 * m) t in f.between j (omega arith) h ∙ (off j).0 (omega arith) ∙ a.kept.before j (omega arith) ∙ s.stack j l h)
          (λ n. let h = ltb-false j (3 * m) n in by_test (j <? 4 * m)
          (λ t. f.list j h (ltb-true j (4 * m) t))
          (λ n'. let h' = ltb-false j (4 * m) n' in f.rest j h' ∙ high j h' u));
      rest = λ j l. f.rest j (omega arith) ∙ (off j).1 (omega (arith, s.holds.few)) ∙ a.kept.after j l;
    }
      where
        high : (j : ℕ) → 4 * m ≤ j → j < 8 * m → get_or w₂ j 0 ≡ 0
        high j l u = by_test (j <? 5 * m)
            (λ t. let h = ltb-true j (5 * m) t in let q : j ≡ 4 * m + (j - 4 * m) = omega arith in
            (off j).0 (omega arith) ∙ ap (λ (x : ℕ). get_or w₁ x 0) q
            ∙ zero_by (j - 4 * m) (get_or w₁ (4 * m + (j - 4 * m)) 0) (get_or w (4 * m + (j - 4 * m)) 0) (a.levels (j - 4 * m) (omega arith)) (s.levels (j - 4 * m) (omega arith)))
            (λ n. let h = ltb-false j (5 * m) n in by_test (j <? 6 * m)
            (λ t. let h' = ltb-true j (6 * m) t in let q : j ≡ 5 * m + (j - 5 * m) = omega arith in
            (off j).0 h' ∙ ap (λ (x : ℕ). get_or w₁ x 0) q
            ∙ zero_by (j - 5 * m) (get_or w₁ (5 * m + (j - 5 * m)) 0) (get_or w (5 * m + (j - 5 * m)) 0) (a.readers (j - 5 * m) (omega arith)) (s.readers (j - 5 * m) (omega arith)))
            (λ n'. let h' = ltb-false j (6 * m) n' in by_test (j <? 7 * m)
            (λ t. let h'' = ltb-true j (7 * m) t in let q : j ≡ 6 * m + (j - 6 * m) = omega arith in ap (λ (x : ℕ). get_or w₂ x 0) q ∙ members₂ (j - 6 * m) (omega arith))
            (λ n''. let h'' = ltb-false j (7 * m) n'' in let q : j ≡ 7 * m + (j - 7 * m) = omega arith in
            (off j).1 (omega (arith, s.holds.few)) ∙ ap (λ (x : ℕ). get_or w₁ x 0) q
            ∙ zero_by (j - 7 * m) (get_or w₁ (7 * m + (j - 7 * m)) 0) (get_or w (7 * m + (j - 7 * m)) 0) (a.places (j - 7 * m) (omega arith)) (s.places (j - 7 * m) (omega arith)))))
