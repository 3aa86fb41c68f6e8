-- Literals and their bits: the opposite has the same pin and the opposite bit.
use mathlib.Core.Path.{◌≡◌, refl, sym, ◌∙◌, ap}
use mathlib.Core.Bool.{Bool, true, false, not, not-not}
use Prim.Native.Nat.{ℕ, ◌+◌, ◌-◌, ◌*◌, ◌%◌}
use native.Mathlib.Omega.{arith}
use borrow.Author.Tests.{eqb-true, eqb-false}
use Rattle.std.specs.Prelude.{◌==◌}
use Rattle.laws.specs.Tests.{xor}
use Rattle.laws.proofs.Tests.{by_test}
use Rattle.rules.specs.Graph.{pin_of, opposite, opposite_if}
use Rattle.rules.specs.Work.{turned}

-- the bit of a literal, from the bits of the graph's pins
abbrev pub lit_of : (ℕ → Bool) → ℕ → Bool
lit_of β l = turned l (β (pin_of l))

pub opp_pin : (l : ℕ) → pin_of (opposite l) ≡ pin_of l
opp_pin l = by_test (l % 2 == 0)
    (λ t. rw t (omega (arith, eqb-true (l % 2) 0 t)))
    (λ f. rw f (omega (arith, eqb-false (l % 2) 0 f)))

opp_turned : (l : ℕ) (b : Bool) → turned (opposite l) b ≡ not (turned l b)
opp_turned l b = by_test (l % 2 == 0)
    (λ t. rw t (let z : (l + 1) % 2 ≡ 1 = omega (arith, eqb-true (l % 2) 0 t) in rw z))
    (λ f. rw f (let z : (l - 1) % 2 ≡ 0 = omega (arith, eqb-false (l % 2) 0 f) in rw z (sym (not-not b))))

pub opp_bit : (β : ℕ → Bool) (l : ℕ) → lit_of β (opposite l) ≡ not (lit_of β l)
opp_bit β l = rw (opp_pin l) (opp_turned l (β (pin_of l)))

pub opp_if_pin : (x : Bool) (l : ℕ) → pin_of (opposite_if x l) ≡ pin_of l
opp_if_pin true l = opp_pin l
opp_if_pin false l = refl

xor_true : (b : Bool) → not b ≡ xor true b
xor_true true = refl
xor_true false = refl

pub opp_if_bit : (β : ℕ → Bool) (x : Bool) (l : ℕ) → lit_of β (opposite_if x l) ≡ xor x (lit_of β l)
opp_if_bit β true l = opp_bit β l ∙ xor_true (lit_of β l)
opp_if_bit β false l = refl

-- a pin's own literal
pub even_pin : (u : ℕ) → pin_of (2 * u) ≡ u
even_pin u = omega arith

pub even_bit : (β : ℕ → Bool) (u : ℕ) → lit_of β (2 * u) ≡ β u
even_bit β u = let z : (2 * u) % 2 ≡ 0 = omega arith in rw (z, even_pin u)

-- literals 0 and 1, where pin 0 has bit 0
pub zero_bit : (β : ℕ → Bool) → β 0 ≡ false → lit_of β 0 ≡ false
zero_bit β tie = tie

pub one_bit : (β : ℕ → Bool) → β 0 ≡ false → lit_of β 1 ≡ true
one_bit β tie = ap not tie
