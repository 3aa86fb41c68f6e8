-- Lists by index: what stands where, and tests of every entry.
use Rattle.std.specs.List.{AllWithin, HoldsAt}
use Rattle.std.specs.Bool.{MatchBool}
use mathlib.Core.Path.{◌≡◌, refl, sym, ap, subst}
use mathlib.Core.Bool.{Bool, true, false}
use mathlib.Core.List.{List, [], ◌∷◌, ◌++◌, map}
use Prim.Native.Nat.{ℕ, zero, suc, ◌≤◌, ◌<◌}
use native.Mathlib.Omega.{arith}
use lib.ListN.{length, get_or, length-append, get_or-append, get_or-eq_default}
use lib.Seq.{get_or-append_seam}
use borrow.Author.Tests.{ltb-true, ltb-false, eqb-true, eqb-false}
use Rattle.std.specs.Prelude.{if◌then◌else◌, ◌==◌}
use Rattle.laws.specs.Tests.{◌<?◌}
use Rattle.laws.specs.Lists.{count, every}
use Rattle.laws.proofs.Tests.{by_test, true≢false, one_eq, one_ne, and_l, and_r}
use Rattle.laws.proofs.Bags.{at_head, here, there}

-- entries seen through a function
pub map_at : {A B : Type 0} (f : A → B) (l : List A) (k : ℕ) (d : A) (d' : B) → k < length l → get_or (map f l) k d' ≡ f (get_or l k d)
map_at f [] k d d' h = absurd (omega arith)
map_at f (x ∷ l) zero d d' h = refl
map_at f (x ∷ l) (suc k) d d' h = map_at f l k d d' (omega arith)

-- members have an index, and entries are members
pub at_in : (l : List ℕ) (k : ℕ) → k < length l → 0 < count (get_or l k 0) l
at_in [] k h = absurd (omega arith)
at_in (x ∷ l) zero h = here x l
at_in (x ∷ l) (suc k) h = there (get_or l k 0) x l (at_in l k (omega arith))

pub index_of : (l : List ℕ) (x : ℕ) → 0 < count x l → (k : ℕ) × (k < length l) × (get_or l k 0 ≡ x)
index_of [] x m = absurd (omega arith)
index_of (y ∷ l) x m = at_head x y l m (λ e. (0, omega arith, sym e)) (λ m'. let w = index_of l x m' in (suc w.0, omega (arith, w.1), w.2))

pub once_at : (l : List ℕ) → ((x : ℕ) → count x l ≤ 1) → (k j : ℕ) → k < length l → j < length l → get_or l k 0 ≡ get_or l j 0 → k ≡ j
once_at [] o k j hk hj e = absurd (omega arith)
once_at (y ∷ l) o zero zero hk hj e = refl
once_at (y ∷ l) o zero (suc j) hk hj e = absurd (omega (arith, o y, one_eq y y refl, subst (λ (x : ℕ). 0 < count x l) (sym e) (at_in l j (omega arith))))
once_at (y ∷ l) o (suc k) zero hk hj e = absurd (omega (arith, o y, one_eq y y refl, subst (λ (x : ℕ). 0 < count x l) e (at_in l k (omega arith))))
once_at (y ∷ l) o (suc k) (suc j) hk hj e = ap suc (once_at l (λ x. omega (arith, o x)) k j (omega arith) (omega arith) e)

-- what is not the default stands below the length
pub past : (l : List ℕ) (i u : ℕ) → get_or l i 0 ≡ u → 0 < u → i < length l
past [] i u e h = absurd (omega arith)
past (x ∷ l) zero u e h = omega arith
past (x ∷ l) (suc i) u e h = omega (arith, past l i u e h)

-- the index at which a number stands first; where it does not stand, the length
abbrev pub place : ℕ → List ℕ → ℕ
place u [] = 0
place u (x ∷ xs) = if u == x then 0 else suc (place u xs)

pub place_at : (u : ℕ) (l : List ℕ) → 0 < count u l → (place u l < length l) × (get_or l (place u l) 0 ≡ u)
place_at u [] m = absurd (omega arith)
place_at u (x ∷ l) m = by_test (u == x)
    (λ t. rw t (omega arith, sym (eqb-true u x t)))
    (λ f. let w = place_at u l (omega (arith, m, one_ne u x (eqb-false u x f))) in rw f (omega (arith, w.0), w.1))

-- a list that has grown at its end by one, entry by entry
module _ {A : Type 0} (l : List A) (x d : A) where
  pub snoc_length : length (l ++ (x ∷ [])) ≡ suc (length l)
  snoc_length = omega (arith, length-append l (x ∷ []))

  pub snoc_at : get_or (l ++ (x ∷ [])) (length l) d ≡ x
  snoc_at = get_or-append_seam l x [] d

  pub snoc_kept : (k : ℕ) → k < length l → get_or (l ++ (x ∷ [])) k d ≡ get_or l k d
  snoc_kept k h = get_or-append l (x ∷ []) d k h

  pub snoc_cases : (P : A → Type 0) (k : ℕ) → (k < length l → P (get_or l k d)) → (k ≡ length l → P x) → (length l < k → P d) → P (get_or (l ++ (x ∷ [])) k d)
  snoc_cases P k p q r = by_test (k <? length l)
      (λ t. rw (snoc_kept k (ltb-true k (length l) t)) (p (ltb-true k (length l) t)))
      (λ f. by_test (k == length l)
      (λ t. let e = eqb-true k (length l) t in subst (λ (j : ℕ). P (get_or (l ++ (x ∷ [])) j d)) (sym e) (rw snoc_at (q e)))
      (λ g. let n : length l < k = omega (arith, ltb-false k (length l) f, eqb-false k (length l) g) in
      rw (get_or-eq_default (l ++ (x ∷ [])) d {n = k} (omega (arith, snoc_length, n))) (r n)))

-- a test that each entry passes
module _ {A : Type 0} (p : A → Bool) (d : A) where
  pub every_at : (l : List A) (k : ℕ) → every p l ≡ true → k < length l → p (get_or l k d) ≡ true
  every_at [] k h l = absurd (omega arith)
  every_at (x ∷ xs) zero h l = and_l (p x) (every p xs) h
  every_at (x ∷ xs) (suc k) h l = every_at xs k (and_r (p x) (every p xs) h) (omega arith)

  pub every_entry : (l : List A) → ((k : ℕ) → k < length l → p (get_or l k d) ≡ true) → every p l ≡ true
  every_entry [] h = refl
  every_entry (x ∷ xs) h = rw (h 0 (omega arith)) (every_entry xs (λ k l. h (suc k) (omega arith)))

  pub not_every : {P : Type 0} (l : List A) → every p l ≡ false → ((k : ℕ) → k < length l → p (get_or l k d) ≡ false → P) → P
  not_every [] h c = true≢false true refl h
  not_every (x ∷ xs) h c = by_test (p x) (λ t. not_every xs (rw t at h) (λ k l e. c (suc k) (omega arith) e)) (λ f. c 0 (omega arith) f)

  pub every_fails : (l : List A) (k : ℕ) → k < length l → p (get_or l k d) ≡ false → every p l ≡ false
  every_fails l k h e = by_test (every p l) (λ t. true≢false (p (get_or l k d)) (every_at l k t h) e) (λ f. f)

  -- what the call of `all` answers on a slice
  pub every-from_cases : (l : List A) (r : Bool) → MatchBool r (AllWithin (λ x. p x ≡ true) l 0 (length l)) ((k : ℕ) × (k < length l) × HoldsAt (λ x. p x ≡ false) l k) → r ≡ every p l
  every-from_cases l true h = sym (every_entry l (λ k b. h k d (omega arith) b))
  every-from_cases l false (k, b, f) = sym (every_fails l k b (f d))
