-- Tests on numbers and choices between two ways, in the notation that the rules are written in.
use Rattle.std.specs.Prelude.{Bool, true, false, ℕ, zero, suc, leb, ltb}

infix 50 ◌<?◌
infix 50 ◌≤?◌
abbrev pub ◌<?◌ : ℕ → ℕ → Bool
◌<?◌ x y = ltb x y

abbrev pub ◌≤?◌ : ℕ → ℕ → Bool
◌≤?◌ x y = leb x y

-- a bit as a number
abbrev pub one : Bool → ℕ
one true = 1
one false = 0

-- two bits are the same
abbrev pub same : Bool → Bool → Bool
same true b = b
same false true = false
same false false = true

abbrev pub xor : Bool → Bool → Bool
xor true true = false
xor true false = true
xor false b = b

-- the first number that is not 0: of tests in a row, the refusal of the first that fails
abbrev pub or_else : ℕ → ℕ → ℕ
or_else zero r = r
or_else (suc k) r = suc k

-- the number of a refusal where a test does not pass, else 0
abbrev pub refuse : ℕ → Bool → ℕ
refuse k true = 0
refuse k false = k
