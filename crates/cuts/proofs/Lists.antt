-- Lemmas on lists that the laws of the stages need.
use mathlib.Core.Path.{◌≡◌, refl, sym, ap}
use mathlib.Core.Bool.{Bool, true, false}
use mathlib.Core.List.{List, [], ◌∷◌, map}
use Prim.Native.Nat.{ℕ, suc, ◌≤◌, ◌<◌}
use native.Mathlib.Omega.{arith}
use lib.ListN.{length}
use borrow.Author.Tests.{eqb-true}
use Rattle.std.specs.Prelude.{◌==◌}
use Rattle.laws.specs.Lists.{count, member, keep, is_nil}
use Rattle.laws.specs.Sets.{remove}
use Rattle.laws.proofs.Tests.{by_test}
use Rattle.laws.proofs.Bags.{member_true, member_false, at_head, here, there, none_in, nil_not}
use Rattle.laws.proofs.Sets.{count-remove, length-remove}
use Rattle.laws.proofs.Counting.{fits}

-- two bags that are the same are as long
pub same_length : (l m : List ℕ) → ((x : ℕ) → count x l ≡ count x m) → length l ≡ length m
same_length [] m h = sym (ap length (none_in m (λ x. sym (h x))))
same_length (x ∷ l) m h =
    omega (
      arith,
      length-remove m x (omega (arith, h x, here x l)),
      same_length l (remove m x) (λ y. omega (arith, h y, count-remove m x y)),
    )

-- numbers from 1 to n without repeats are at most n
pub fits_from_one : (n : ℕ) (l : List ℕ) → ((p : ℕ) → count p l ≤ 1) → ((p : ℕ) → 0 < count p l → (0 < p) × (p ≤ n)) → length l ≤ n
fits_from_one n l once within = omega (
  arith,
  fits (suc n) (0 ∷ l)
      (λ p. by_test (p == 0)
      (λ t. rw t (omega (arith, none p (eqb-true p 0 t))))
      (λ f. rw f (omega (arith, once p))))
      (λ p m. at_head p 0 l m (λ e. omega arith) (λ m'. omega (arith, (within p m').1))),
)
  where
    none : (p : ℕ) → p ≡ 0 → count p l ≡ 0
    none p e = by_test (member p l) (λ t. absurd (omega (arith, (within p (member_true p l t)).0))) (λ f. member_false p l f)

-- what stands in a list seen through a function
pub map-member : {P : Type 0} (f : ℕ → ℕ) (l : List ℕ) (y : ℕ) → 0 < count y (map f l) → ((x : ℕ) → 0 < count x l → y ≡ f x → P) → P
map-member f [] y m k = absurd (omega arith)
map-member f (x ∷ l) y m k = at_head y (f x) (map f l) m (λ e. k x (here x l) e) (λ m'. map-member f l y m' (λ z mz e. k z (there z x l mz) e))

-- a test that all members pass keeps all
pub keep_all : (p : ℕ → Bool) (l : List ℕ) → ((x : ℕ) → 0 < count x l → p x ≡ true) → keep p l ≡ l
keep_all p [] h = refl
keep_all p (x ∷ l) h = rw (h x (here x l)) (ap (λ r. x ∷ r) (keep_all p l (λ y m. h y (there y x l m))))

-- a list that is not empty has a member
pub some_in : {P : Type 0} (l : List ℕ) → is_nil l ≡ false → ((p : ℕ) → 0 < count p l → P) → P
some_in [] e k = absurd (omega (arith, nil_not {A = ℕ} [] e))
some_in (x ∷ l) e k = k x (here x l)
