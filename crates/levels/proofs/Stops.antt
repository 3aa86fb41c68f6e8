-- The stops as a list, and what holds as long as the words below 4 * m are as they were.
use mathlib.Core.Path.{◌≡◌, refl, ap, ◌∙◌}
use mathlib.Core.Bool.{Bool, true, false}
use mathlib.Core.List.{List, [], ◌∷◌}
use Prim.Native.Nat.{ℕ, ◌+◌, ◌*◌, ◌<◌, ◌≤◌}
use native.Mathlib.Omega.{arith}
use lib.ListN.{length, get_or}
use borrow.Author.Tests.{ltb-true, ltb-false, lt-ltb, le-ltb}
use Rattle.laws.specs.Tests.{◌<?◌, one}
use Rattle.laws.specs.Lists.{count, member, keep, upto}
use Rattle.laws.proofs.Tests.{by_test}
use Rattle.laws.proofs.Bags.{is_member, no_member, count-keep, count-drop}
use Rattle.laws.proofs.Ranges.{upto_in, in_upto}
use Rattle.laws.proofs.Words.{part_same}
use Rattle.laws.proofs.Stacks.{stack_none}
use Rattle.walk.specs.State.{list_of, Stops, Listing, Going}
use Rattle.levels.specs.State.{stops_of}

module _ (w : List ℕ) (m : ℕ) where
  abbrev set? : ℕ → Bool
  set? p = 0 <? get_or w (m + p) 0

  stop_in : (p : ℕ) → p < m → 0 < get_or w (m + p) 0 → member p (stops_of w m) ≡ true
  unfolding stops_of
  stop_in p l h = is_member p (keep set? (upto m)) (omega (arith, count-keep set? p (upto m) (lt-ltb 0 (get_or w (m + p) 0) h), upto_in m p l))

  stop_out : (p : ℕ) → get_or w (m + p) 0 ≡ 0 → member p (stops_of w m) ≡ false
  unfolding stops_of
  stop_out p z = no_member p (keep set? (upto m)) (count-drop set? p (upto m) (le-ltb 0 (get_or w (m + p) 0) (omega arith)))

  pub stops_are : ((p : ℕ) → p < m → get_or w (m + p) 0 ≤ 1) → Stops w m (stops_of w m)
  stops_are f = record {
    stop = λ p l. by_test (0 <? get_or w (m + p) 0)
        (λ t. let h = ltb-true 0 (get_or w (m + p) 0) t in omega (arith, f p l, h, ap one (stop_in p l h)))
        (λ n. let z : get_or w (m + p) 0 ≡ 0 = omega (arith, ltb-false 0 (get_or w (m + p) 0) n) in omega (arith, z, ap one (stop_out p z)));
  }

  pub stop_member : (p : ℕ) → p < m → (get_or w (m + p) 0 ≡ 0 → ⊥) → member p (stops_of w m) ≡ true
  stop_member p l n = stop_in p l (omega (arith, n))

  pub stop_free : (p : ℕ) → get_or w (m + p) 0 ≡ 0 → member p (stops_of w m) ≡ false
  stop_free = stop_out

-- stops that are the same make the same list
pub keep_same : (f g : ℕ → Bool) (l : List ℕ) → ((x : ℕ) → 0 < count x l → f x ≡ g x) → keep f l ≡ keep g l
keep_same f g [] e = refl
keep_same f g (x ∷ l) e = rw (e x (Rattle.laws.proofs.Bags.here x l), keep_same f g l (λ y m. e y (Rattle.laws.proofs.Bags.there y x l m)))

pub stops_same : (v w : List ℕ) (m : ℕ) → ((p : ℕ) → p < m → get_or w (m + p) 0 ≡ get_or v (m + p) 0) → stops_of w m ≡ stops_of v m
unfolding stops_of
stops_same v w m e = keep_same (set? w m) (set? v m) (upto m) (λ p c. ap (λ (x : ℕ). 0 <? x) (e p (in_upto m p c)))

-- ---- a walk that is not touched
module _ (ws : List ℕ) (m : ℕ) (v w : List ℕ) (k : ℕ) (same : (j : ℕ) → j < 4 * m → get_or w j 0 ≡ get_or v j 0) (long : length w ≡ length v) where
  pub list_same : k ≤ m → 4 * m ≤ length v → list_of w m k ≡ list_of v m k
  list_same l h = part_same w v (3 * m) k (omega arith) (omega arith) (λ j lj uj. same j (omega arith))

  pub listing_same : Listing m v k → Listing m w k
  listing_same s =
      let e : list_of w m k ≡ list_of v m k = list_same s.count s.long in
      record {
        long = omega (arith, s.long, long);
        count = s.count;
        exact = rw e s.exact;
        inside = λ j l. rw (same (3 * m + j) (omega (arith, s.count))) (s.inside j l);
        marks = λ p l. rw e (same p (omega arith) ∙ s.marks p l);
        after = λ j l u. same j (omega arith) ∙ s.after j l u;
      }

  pub going_same : Going ws m v 0 k → Going ws m w 0 k
  going_same s = record {
    low = s.low;
    fits = s.fits;
    drivers_long = s.drivers_long;
    flags = λ p l. rw (same (m + p) (omega arith)) (s.flags p l);
    listing = listing_same s.listing;
    height = s.height;
    stack = rw (stack_none w (2 * m)) (omega arith);
    above = λ j l u. same j (omega arith) ∙ s.above j l u;
  }
