-- Literals: the opposite, by the two ways of its test.
use mathlib.Core.Path.{◌≡◌}
use Prim.Native.Nat.{ℕ, ◌+◌, ◌-◌, ◌%◌}
use borrow.Author.Tests.{eq-eqb, ne_eqb}
use Rattle.rules.specs.Graph.{opposite}

pub opposite_even : (l : ℕ) → l % 2 ≡ 0 → l + 1 ≡ opposite l
opposite_even l e = rw (eq-eqb (l % 2) 0 e)

pub opposite_odd : (l : ℕ) → (l % 2 ≡ 0 → ⊥) → l - 1 ≡ opposite l
opposite_odd l ne = rw (ne_eqb (l % 2) 0 ne)
