-- Bytes printed into a buffer from a place on, as far as the buffer reaches.
use Rattle.std.specs.Prelude.{◌≡◌, ◌||◌, List, [], ◌∷◌, ◌++◌, ℕ, zero, suc, ◌+◌, ◌/◌, ◌%◌, length, get_or, take, drop, if◌then◌else◌, ◌==◌}
use Rattle.laws.specs.Tests.{◌≤?◌}
use Rattle.texts.specs.Text.{stored, tab, newline}

-- the place behind n bytes more: no further than the end
abbrev pub reach : ℕ → ℕ → ℕ → ℕ
reach room at n = if at + n ≤? room then at + n else (if at ≤? room then room else at)

pub record Printed (out : List ℕ) (at : ℕ) (bytes out' : List ℕ) (r : ℕ) : Type 0 where
  pub is : out' ≡ stored out at bytes
  pub place : r ≡ reach (length out) at (length bytes)

-- the decimal digits of a number, from that at the power p on, of k powers; none before the first that counts
unfoldable pub digit_at : ℕ → ℕ → List ℕ
digit_at p n = if p == 0 then [] else (if (p == 1) || (p ≤? n) then (48 + n / p % 10) ∷ [] else [])

unfoldable pub digits_from : ℕ → ℕ → ℕ → List ℕ
digits_from zero p n = []
digits_from (suc k) p n = digit_at p n ++ digits_from k (p / 10) n

abbrev pub decimal : ℕ → List ℕ
decimal n = digits_from 10 1000000000 n

-- a tab before each number
unfoldable pub field_bytes : ℕ → List ℕ
field_bytes n = (tab ∷ []) ++ decimal n

unfoldable pub fields_bytes : List ℕ → List ℕ
fields_bytes [] = []
fields_bytes (n ∷ ns) = field_bytes n ++ fields_bytes ns

-- a line: a word, and numbers behind it
unfoldable pub line_bytes : List ℕ → List ℕ → List ℕ
line_bytes label ns = label ++ (fields_bytes ns ++ (newline ∷ []))

-- n lines of width numbers each
unfoldable pub rows_bytes : List ℕ → ℕ → ℕ → List ℕ → List ℕ
rows_bytes label width zero ns = []
rows_bytes label width (suc n) ns = line_bytes label (take width ns) ++ rows_bytes label width n (drop width ns)

-- n lines from number i on, each a number and the word of a table at it
unfoldable pub numbered_bytes : List ℕ → List ℕ → ℕ → ℕ → List ℕ
numbered_bytes label ns i zero = []
numbered_bytes label ns i (suc n) = line_bytes label (i ∷ get_or ns i 0 ∷ []) ++ numbered_bytes label ns (i + 1) n
