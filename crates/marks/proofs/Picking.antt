-- Numbers marked one after the other, in the code's shape: those that a function of the place gives, where some may be left out.
use mathlib.Core.Path.{◌≡◌, refl, sym, ap, subst, ◌∙◌}
use mathlib.Core.Bool.{Bool, true, false, ◌&&◌}
use mathlib.Core.List.{List, [], ◌∷◌, ◌++◌, map, append_assoc, append-nil}
use Prim.Native.Nat.{ℕ, zero, suc, ◌+◌, ◌≤◌, ◌<◌}
use native.Mathlib.Omega.{arith}
use native.Mathlib.Numerals.{add-one}
use lib.ListN.{length, get_or}
use lib.Seq.{ext_get_or}
use borrow.Author.Tests.{eqb-true, eqb-false}
use Rattle.std.specs.Prelude.{◌==◌}
use Rattle.laws.specs.Lists.{keep, upto}
use Rattle.laws.proofs.Tests.{by_test, true≢false}
use Rattle.laws.proofs.Bags.{map-append, keep_append}
use Rattle.laws.proofs.Ranges.{map-upto, length-map-upto}
use Rattle.rules.specs.Refusals.{below, no_repeat}
use Rattle.marks.specs.Marking.{Clear, Marks, Marked, joined, outside, repeated, MarkedAll, a_set, no_set}
use Rattle.marks.proofs.Joining.{marks_begin, marks_more, too_large, seen_before, whole_set}

-- the numbers below n are those below i, then i, then the rest
upto_parts : {P : Type 0} (n i : ℕ) → i < n → ((rest : List ℕ) → upto n ≡ upto i ++ (i ∷ rest) → P) → P
upto_parts zero i l k = absurd (omega arith)
upto_parts (suc n) i l k = by_test (i == n)
    (λ t. let e : i ≡ n = eqb-true i n t in k [] (ap (λ (x : ℕ). upto x ++ (x ∷ [])) (sym e)))
    (λ f. let ne = eqb-false i n f in
    upto_parts n i (omega (arith, l, ne)) (λ rest e. k (rest ++ (n ∷ [])) (ap (λ (x : List ℕ). x ++ (n ∷ [])) e ∙ append_assoc (upto i) (i ∷ rest) (n ∷ []))))

-- the pins that a function of the number gives, where those that fail a test are left out
module _ (f : ℕ → ℕ) (t : ℕ → Bool) where
  abbrev pub picked : ℕ → List ℕ
  picked n = keep t (map f (upto n))

  pub picked_more : (i : ℕ) → t (f i) ≡ true → picked (i + 1) ≡ picked i ++ (f i ∷ [])
  picked_more i y = ap picked (add-one i) ∙ ap (keep t) (map-append f (upto i) (i ∷ [])) ∙ keep_append t (map f (upto i)) (f i ∷ [])
      ∙ ap (λ (l : List ℕ). picked i ++ l) (rw y)

  pub picked_less : (i : ℕ) → t (f i) ≡ false → picked (i + 1) ≡ picked i
  picked_less i y = ap picked (add-one i) ∙ ap (keep t) (map-append f (upto i) (i ∷ [])) ∙ keep_append t (map f (upto i)) (f i ∷ [])
      ∙ ap (λ (l : List ℕ). picked i ++ l) (rw y) ∙ append-nil (picked i)

  pub picked_parts : {P : Type 0} (n i : ℕ) → i < n → t (f i) ≡ true → ((rest : List ℕ) → picked n ≡ picked i ++ (f i ∷ rest) → P) → P
  picked_parts n i l y k = upto_parts n i l (λ rest e. k (keep t (map f rest))
      (ap (λ (x : List ℕ). keep t (map f x)) e ∙ ap (keep t) (map-append f (upto i) (i ∷ rest)) ∙ keep_append t (map f (upto i)) (f i ∷ map f rest)
      ∙ ap (λ (x : List ℕ). picked i ++ x) (rw y)))

-- ---- the first i of n are marked
pub record Picking (f : ℕ → ℕ) (t : ℕ → Bool) (n : ℕ) (w₀ w : List ℕ) (base limit i : ℕ) : Type 0 where
  pub inside : i ≤ n
  pub marks : Marks w₀ w base limit (picked f t i)
  pub long : base + limit ≤ length w
  pub same_length : length w ≡ length w₀

pub pick_begins : (f : ℕ → ℕ) (t : ℕ → Bool) (n : ℕ) (w : List ℕ) (base limit : ℕ) → Clear w base limit → Picking f t n w w base limit 0
pick_begins f t n w base limit c = record { inside = omega arith; marks = marks_begin w base limit c; long = c.long; same_length = refl }

module _ (f : ℕ → ℕ) (t : ℕ → Bool) (n : ℕ) (w₀ w : List ℕ) (base limit i : ℕ) (s : Picking f t n w₀ w base limit i) (l : i < n) where
  pub pick_skips : t (f i) ≡ false → Picking f t n w₀ w base limit (i + 1)
  pick_skips y = record { inside = omega arith; marks = rw (picked_less f t i y) s.marks; long = s.long; same_length = s.same_length }

  module _ (y : t (f i) ≡ true) (w' : List ℕ) (r : Bool) where
    pub pick_goes_on : Marked w base limit (f i) w' r → r ≡ true → Picking f t n w₀ w' base limit (i + 1)
    pick_goes_on (joined a z e q) v =
        let m = marks_more w₀ w base limit (picked f t i) s.marks (f i) a z in
        let k : Marks w₀ w' base limit (picked f t (i + 1)) = subst (λ (x : List ℕ). Marks w₀ x base limit (picked f t (i + 1))) (sym e) (rw (picked_more f t i y) m) in
        record { inside = omega arith; marks = k; long = k.long; same_length = k.same_length }
    pick_goes_on (outside a e q) v = true≢false r v q
    pick_goes_on (repeated a z e q) v = true≢false r v q

    pub pick_fails : Marked w base limit (f i) w' r → r ≡ false → MarkedAll (picked f t n) w₀ base limit w' false
    pick_fails (joined a z e q) v = true≢false r q v
    pick_fails (outside a e q) v = picked_parts f t n i l y (λ rest whole.
        no_set (subst (λ (x : List ℕ). (below limit x && no_repeat x) ≡ false) (sym whole) (too_large w₀ w base limit (picked f t i) s.marks (f i) rest a))
        (ap length e ∙ s.same_length) refl)
    pick_fails (repeated a z e q) v = picked_parts f t n i l y (λ rest whole.
        no_set (subst (λ (x : List ℕ). (below limit x && no_repeat x) ≡ false) (sym whole) (seen_before w₀ w base limit (picked f t i) s.marks (f i) rest a z))
        (ap length e ∙ s.same_length) refl)

pub pick_ends : (f : ℕ → ℕ) (t : ℕ → Bool) (n : ℕ) (w₀ w : List ℕ) (base limit i : ℕ) → Picking f t n w₀ w base limit i → n ≤ i
    → MarkedAll (picked f t n) w₀ base limit w true
pick_ends f t n w₀ w base limit i s l =
    let e : i ≡ n = omega (arith, s.inside, l) in
    let m : Marks w₀ w base limit (picked f t n) = subst (λ (k : ℕ). Marks w₀ w base limit (picked f t k)) e s.marks in
    a_set m (whole_set w₀ w base limit (picked f t n) m) refl

-- ---- all of them, where no test is made
abbrev pub always : ℕ → Bool
always p = true

all_kept : (l : List ℕ) → keep always l ≡ l
all_kept [] = refl
all_kept (x ∷ l) = ap (λ (r : List ℕ). x ∷ r) (all_kept l)

pub each_goes_on : (f : ℕ → ℕ) (n : ℕ) (w₀ w : List ℕ) (base limit i : ℕ) → Picking f always n w₀ w base limit i → (w' : List ℕ) (r : Bool) → i < n
    → Marked w base limit (f i) w' r → r ≡ true → Picking f always n w₀ w' base limit (i + 1)
each_goes_on f n w₀ w base limit i s w' r l m e = pick_goes_on f always n w₀ w base limit i s l refl w' r m e

module _ (f : ℕ → ℕ) (n : ℕ) (list w₀ w : List ℕ) (base limit i : ℕ) (whole : map f (upto n) ≡ list) (s : Picking f always n w₀ w base limit i) where
  the_list : picked f always n ≡ list
  the_list = all_kept (map f (upto n)) ∙ whole

  pub each_fails : (w' : List ℕ) (r : Bool) → i < n → Marked w base limit (f i) w' r → r ≡ false → MarkedAll list w₀ base limit w' false
  each_fails w' r l m e =
      subst (λ (x : List ℕ). MarkedAll x w₀ base limit w' false) the_list (pick_fails f always n w₀ w base limit i s l refl w' r m e)

  pub each_ends : n ≤ i → MarkedAll list w₀ base limit w true
  each_ends l = subst (λ (x : List ℕ). MarkedAll x w₀ base limit w true) the_list (pick_ends f always n w₀ w base limit i s l)

-- a list is what stands at its places
pub places : (list : List ℕ) → map (λ i. get_or list i 0) (upto (length list)) ≡ list
places list =
    ext_get_or 0 (map (λ i. get_or list i 0) (upto (length list))) list (length-map-upto (λ i. get_or list i 0) (length list))
    (λ i l. map-upto (λ k. get_or list k 0) 0 (length list) i (omega (arith, l, length-map-upto (λ k. get_or list k 0) (length list))))
