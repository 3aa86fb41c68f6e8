-- What the tests of a driver's words say: whether the pin u may have that driver, and whether each pin may have its own.
use mathlib.Core.Path.{◌≡◌, refl, sym, ap, ◌∙◌}
use mathlib.Core.Bool.{Bool, true, false, ◌&&◌}
use mathlib.Core.List.{List}
use Prim.Native.Nat.{ℕ, zero, suc, ◌+◌, ◌*◌, ◌<◌, ◌≤◌}
use native.Mathlib.Numerals.{add-one}
use native.Mathlib.Omega.{arith}
use borrow.Author.Tests.{eq-eqb, ne_eqb, lt-leb, leb-true, leb-false}
use lib.ListN.{get_or}
use Rattle.std.specs.Prelude.{Some}
use Rattle.laws.specs.Tests.{◌<?◌, ◌≤?◌}
use Rattle.laws.specs.Lists.{every, upto}
use Rattle.laws.proofs.Tests.{by_test}
use Rattle.laws.proofs.Ranges.{upto_fails, upto-more}
use Rattle.rules.specs.declared.Driver.{Driver}
use Rattle.rules.specs.declared.Driver.TheVariants.{Port, Dff, Ram}
use Rattle.rules.specs.Tables.{decode, decode_at, unused, flag_in}
use Rattle.rules.specs.Refusals.{driver_fits, drivers_fit}

-- ---- the cases by their tags
pub unused_fits : (u b : ℕ) (d : Driver) → driver_fits u (Some d) ≡ (0 <? u) → driver_fits u (unused b d) ≡ ((b ≤? 0) && (0 <? u))
unused_fits u b d e = by_test (b ≤? 0)
    (λ t. rw (t, eq-eqb b 0 (omega (arith, leb-true b 0 t))) e)
    (λ f. rw (f, ne_eqb b 0 (λ z. omega (arith, z, leb-false b 0 f))))

flag_fits : (u a b : ℕ) → driver_fits u (flag_in a b) ≡ ((b ≤? 1) && (0 <? u))
flag_fits u a zero = refl
flag_fits u a (suc zero) = refl
flag_fits u a (suc (suc b)) =
    rw (ne_eqb (suc (suc b)) 0 (λ z. omega (arith, z)), ne_eqb (suc (suc b)) 1 (λ z. omega (arith, z)), lt-leb (suc (suc b)) 1 (omega arith))

module _ (u t a b : ℕ) (r : Bool) where
  pub by_tag : (k : ℕ) → t ≡ k → r ≡ driver_fits u (decode k a b) → r ≡ driver_fits u (decode t a b)
  by_tag k e q = q ∙ ap (λ (x : ℕ). driver_fits u (decode x a b)) (sym e)

  pub port_tag : t ≡ 2 → r ≡ ((b ≤? 0) && (0 <? u)) → r ≡ driver_fits u (decode t a b)
  port_tag e q = by_tag 2 e (q ∙ sym (unused_fits u b (Port a) refl))

  pub flag_tag : t ≡ 3 → r ≡ ((b ≤? 1) && (0 <? u)) → r ≡ driver_fits u (decode t a b)
  flag_tag e q = by_tag 3 e (q ∙ sym (flag_fits u a b))

  pub dff_tag : t ≡ 4 → r ≡ ((b ≤? 0) && (0 <? u)) → r ≡ driver_fits u (decode t a b)
  dff_tag e q = by_tag 4 e (q ∙ sym (unused_fits u b (Dff a) refl))

  pub ram_tag : t ≡ 5 → r ≡ ((b ≤? 0) && (0 <? u)) → r ≡ driver_fits u (decode t a b)
  ram_tag e q = by_tag 5 e (q ∙ sym (unused_fits u b (Ram a) refl))

pub no_tag_fits : (u t a b : ℕ) → (t ≡ 0 → ⊥) → (t ≡ 1 → ⊥) → (t ≡ 2 → ⊥) → (t ≡ 3 → ⊥) → (t ≡ 4 → ⊥) → (t ≡ 5 → ⊥) → false ≡ driver_fits u (decode t a b)
no_tag_fits u t a b n0 n1 n2 n3 n4 n5 =
    sym (rw (ne_eqb t 0 n0, ne_eqb t 1 n1, ne_eqb t 2 n2, ne_eqb t 3 n3, ne_eqb t 4 n4, ne_eqb t 5 n5))

-- ---- each pin in turn
pub words_say : (ws : List ℕ) (u t a b : ℕ) (r : Bool) → t ≡ get_or ws (3 * u) 0 → a ≡ get_or ws (3 * u + 1) 0 → b ≡ get_or ws (3 * u + 2) 0
    → r ≡ driver_fits u (decode t a b) → r ≡ driver_fits u (decode_at ws u)
unfolding decode_at
words_say ws u t a b r et ea eb q = q ∙ λ i. driver_fits u (decode (et i) (ea i) (eb i))

-- the pins below u may have theirs
pub record Fit (ws : List ℕ) (u : ℕ) : Type 0 where
  pub so_far : every (λ v. driver_fits v (decode_at ws v)) (upto u) ≡ true

pub fit_begins : (ws : List ℕ) → Fit ws 0
fit_begins ws = record { so_far = refl }

pub fit_goes_on : (ws : List ℕ) (u : ℕ) (r : Bool) → Fit ws u → r ≡ driver_fits u (decode_at ws u) → r ≡ true → Fit ws (u + 1)
fit_goes_on ws u r f e t = record {
  so_far = ap (λ (n : ℕ). every (λ v. driver_fits v (decode_at ws v)) (upto n)) (add-one u)
      ∙ upto-more (λ v. driver_fits v (decode_at ws v)) u f.so_far (sym e ∙ t);
}

pub fit_fails : (ws : List ℕ) (pins u : ℕ) (r : Bool) → u < pins + 1 → r ≡ driver_fits u (decode_at ws u) → r ≡ false → false ≡ drivers_fit ws pins
fit_fails ws pins u r l e f = sym (upto_fails (λ v. driver_fits v (decode_at ws v)) (pins + 1) u l (sym e ∙ f))

pub fit_ends : (ws : List ℕ) (pins u : ℕ) → Fit ws u → u ≤ pins + 1 → pins + 1 ≤ u → true ≡ drivers_fit ws pins
fit_ends ws pins u f a b = let e : u ≡ pins + 1 = omega arith in sym (rw e at f.so_far)
