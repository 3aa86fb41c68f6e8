-- Text as bytes: lines, fields, and decimal numbers.
use Rattle.std.specs.Prelude.{Option, Some, None, Bool, ◌&&◌, List, [], ◌∷◌, ℕ, ◌+◌, ◌-◌, ◌*◌, set, if◌then◌else◌, ◌==◌}
use Rattle.laws.specs.Tests.{◌≤?◌}

abbrev pub tab : ℕ
tab = 9

abbrev pub newline : ℕ
newline = 10

-- what stands before the first byte c, or all where there is none
unfoldable pub before : ℕ → List ℕ → List ℕ
before c [] = []
before c (x ∷ xs) = if x == c then [] else x ∷ before c xs

-- a byte more at the front of the first part
abbrev pub longer : ℕ → List (List ℕ) → List (List ℕ)
longer x [] = (x ∷ []) ∷ []
longer x (w ∷ ws) = (x ∷ w) ∷ ws

-- the lines of a text: each ends with a newline; a last one without it is a line too
unfoldable pub lines : List ℕ → List (List ℕ)
lines [] = []
lines (x ∷ xs) = if x == newline then [] ∷ lines xs else longer x (lines xs)

-- the fields of a line: parted by one tab each, so one field more than there are tabs
unfoldable pub fields : List ℕ → List (List ℕ)
fields [] = [] ∷ []
fields (x ∷ xs) = if x == tab then [] ∷ fields xs else longer x (fields xs)

-- ---- numbers: decimal digits with no sign, no leading 0 and at most 4,294,967,295
abbrev pub largest : ℕ
largest = 4294967295

abbrev pub digit : ℕ → Bool
digit b = (48 ≤? b) && (b ≤? 57)

-- the digits of a list behind a value, which they carry on
unfoldable pub digits : ℕ → List ℕ → Option ℕ
digits v [] = Some v
digits v (b ∷ bs) = if digit b then (if 10 * v + (b - 48) ≤? largest then digits (10 * v + (b - 48)) bs else None) else None

-- 0 by itself, or digits that do not begin with 0
unfoldable pub number_of : List ℕ → Option ℕ
number_of [] = None
number_of (b ∷ []) = digits 0 (b ∷ [])
number_of (b ∷ c ∷ bs) = if b == 48 then None else digits 0 (b ∷ c ∷ bs)

-- ---- numbers stored in a table from a place on, as far as the table reaches
unfoldable pub stored : List ℕ → ℕ → List ℕ → List ℕ
stored t i [] = t
stored t i (v ∷ vs) = stored (set t i v) (i + 1) vs
