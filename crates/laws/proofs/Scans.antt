-- A loop that tests one number after the other and stops at the first that fails.
use mathlib.Core.Path.{◌≡◌, refl, sym, ap, ◌∙◌}
use mathlib.Core.Bool.{Bool, true, false}
use Prim.Native.Nat.{ℕ, ◌+◌, ◌≤◌, ◌<◌}
use native.Mathlib.Numerals.{add-one}
use native.Mathlib.Omega.{arith}
use Rattle.laws.specs.Lists.{every, upto}
use Rattle.laws.proofs.Ranges.{upto-more, upto_fails}

-- every number below i passes
pub record Scanned (f : ℕ → Bool) (n i : ℕ) : Type 0 where
  pub inside : i ≤ n
  pub passed : every f (upto i) ≡ true

module _ (f : ℕ → Bool) (n : ℕ) where
  pub scan_begins : Scanned f n 0
  scan_begins = record { inside = omega arith; passed = refl }

  pub scan_goes_on : (i : ℕ) (r : Bool) → Scanned f n i → i < n → r ≡ f i → r ≡ true → Scanned f n (i + 1)
  scan_goes_on i r s l e t = record { inside = omega arith; passed = rw (add-one i) (upto-more f i s.passed (sym e ∙ t)) }

  pub scan_fails : (i : ℕ) (r : Bool) → i < n → r ≡ f i → r ≡ false → false ≡ every f (upto n)
  scan_fails i r l e t = sym (upto_fails f n i l (sym e ∙ t))

  -- the same where the test is no call
  pub scan_passes : (i : ℕ) → Scanned f n i → i < n → f i ≡ true → Scanned f n (i + 1)
  scan_passes i s l t = scan_goes_on i (f i) s l refl t

  pub scan_stops : (i : ℕ) → i < n → f i ≡ false → false ≡ every f (upto n)
  scan_stops i l t = scan_fails i (f i) l refl t

  pub scan_ends : (i : ℕ) → Scanned f n i → n ≤ i → true ≡ every f (upto n)
  scan_ends i s l = let q : i ≡ n = omega (arith, s.inside, l) in sym (ap (λ (k : ℕ). every f (upto k)) (sym q) ∙ s.passed)
