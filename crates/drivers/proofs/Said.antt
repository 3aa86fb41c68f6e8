-- Only the words of a driver say it, so a table's words are told by its drivers.
use mathlib.Core.Path.{◌≡◌, refl, subst}
use Prim.Native.Nat.{ℕ, zero, suc}
use native.Mathlib.Omega.{arith}
use borrow.Author.Tests.{eqb-true, ne_eqb}
use Rattle.std.specs.Prelude.{None, Some, ◌==◌}
use Rattle.laws.proofs.Tests.{by_test}
use Rattle.rules.specs.declared.Edge.TheVariants.{Rising, Falling}
use Rattle.rules.specs.declared.Driver.{Driver}
use Rattle.rules.specs.declared.Driver.TheVariants.{Port, Flag, Dff, Ram, Constant}
use Rattle.rules.specs.Graph.{gate}
use Rattle.rules.specs.Tables.{decode, unused, flag_in}
use Rattle.drivers.specs.Written.{word_of}

pub record Words (t a b : ℕ) (d : Driver) : Type 0 where
  pub tag : t ≡ word_of d 0
  pub first : a ≡ word_of d 1
  pub second : b ≡ word_of d 2

bad_is : {P : Type 0} (d : Driver) → None ≡ Some d → P
bad_is d e = let z : ◌≡◌ {A = ℕ} 0 1 = cc in absurd (omega arith)

same_is : (t a b : ℕ) (x d : Driver) → Words t a b x → Some x ≡ Some d → Words t a b d
same_is t a b x d w e = let q : x ≡ d = cc in subst (Words t a b) q w

-- a case whose third word is not used
unused_is : (t a b : ℕ) (x d : Driver) → (b ≡ 0 → Words t a b x) → unused b x ≡ Some d → Words t a b d
unused_is t a b x d w e = by_test (b == 0)
    (λ y. same_is t a b x d (w (eqb-true b 0 y)) (rw y at e))
    (λ f. bad_is d (rw f at e))

flag_is : (a b : ℕ) (d : Driver) → flag_in a b ≡ Some d → Words 3 a b d
flag_is a b d e = by_test (b == 0)
    (λ y. same_is 3 a b (Flag a Rising) d (record { tag = refl; first = refl; second = eqb-true b 0 y }) (rw y at e))
    (λ f. by_test (b == 1)
    (λ y. same_is 3 a b (Flag a Falling) d (record { tag = refl; first = refl; second = eqb-true b 1 y }) (rw (f, y) at e))
    (λ g. bad_is d (rw (f, g) at e)))

constant_is : (a b : ℕ) (d : Driver) → decode 0 a b ≡ Some d → Words 0 a b d
constant_is a b d e = by_test (a == 0)
    (λ y. unused_is 0 a b Constant d (λ z. record { tag = refl; first = eqb-true a 0 y; second = z }) (rw y at e))
    (λ f. bad_is d (rw f at e))

past_is : (t a b : ℕ) (d : Driver) → decode (suc (suc (suc (suc (suc (suc t)))))) a b ≡ Some d → ⊥
past_is t a b d e = bad_is d
    (rw (
      ne_eqb s 0 (λ z. omega (arith, z)),
      ne_eqb s 1 (λ z. omega (arith, z)),
      ne_eqb s 2 (λ z. omega (arith, z)),
      ne_eqb s 3 (λ z. omega (arith, z)),
      ne_eqb s 4 (λ z. omega (arith, z)),
      ne_eqb s 5 (λ z. omega (arith, z)),
    ) at e)
  where
    s : ℕ
    s = suc (suc (suc (suc (suc (suc t)))))

pub said : (t a b : ℕ) (d : Driver) → decode t a b ≡ Some d → Words t a b d
said zero a b d e = constant_is a b d e
said (suc zero) a b d e = same_is 1 a b (gate a b) d (record { tag = refl; first = refl; second = refl }) e
said (suc (suc zero)) a b d e = unused_is 2 a b (Port a) d (λ z. record { tag = refl; first = refl; second = z }) e
said (suc (suc (suc zero))) a b d e = flag_is a b d e
said (suc (suc (suc (suc zero)))) a b d e = unused_is 4 a b (Dff a) d (λ z. record { tag = refl; first = refl; second = z }) e
said (suc (suc (suc (suc (suc zero))))) a b d e = unused_is 5 a b (Ram a) d (λ z. record { tag = refl; first = refl; second = z }) e
said (suc (suc (suc (suc (suc (suc t)))))) a b d e = absurd (past_is t a b d e)
