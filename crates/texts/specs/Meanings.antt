-- What the functions that read a text promise, and what they need.
use Rattle.std.specs.Prelude.{◌≡◌, Option, Result, Ok, Err, IfOk, Bool, true, false, List, [], ◌∷◌, ℕ, ◌+◌, ◌<◌, ◌≤◌, length, get_or, drop, if◌then◌else◌}
use Rattle.laws.specs.Tests.{◌≤?◌}
use Rattle.laws.specs.Lists.{every}
use Rattle.texts.specs.declared.Sort.{Sort}
use Rattle.texts.specs.declared.Reading.{Reading}
use Rattle.texts.specs.declared.BrokenText.{BrokenText}
use Rattle.texts.specs.declared.Taken.{Taken}
use Rattle.texts.specs.Text.{before, fields, number_of, stored, tab}
use Rattle.texts.specs.Reading.{is_number, numbers_of, reading_in, placed_read, line_read, line_numbers, line_starts, reading_of}

-- the place r is where the first byte `stop` stands from at on, or the end
pub record Until (s : List ℕ) (at stop r : ℕ) : Type 0 where
  pub is : r ≡ at + length (before stop (drop at s))
  pub inside : r ≤ length s

-- the field that begins at a place, and where the next begins
pub record FieldRead (line : List ℕ) (at : ℕ) (number : Option ℕ) (next : ℕ) : Type 0 where
  pub is : number ≡ number_of (before tab (drop at line))
  pub follows : next ≡ at + length (before tab (drop at line)) + 1
  pub inside : next ≤ length line + 1

-- the fields from a place on: none past the end
abbrev pub fields_from : List ℕ → ℕ → List (List ℕ)
fields_from line at = if at ≤? length line then fields (drop at line) else []

-- how many numbers were taken, also where a field was none
abbrev pub count_of : Result Taken ℕ → ℕ
count_of (Ok t) = t.count
count_of (Err n) = n

abbrev pub is_ok : Result Taken ℕ → Bool
is_ok (Ok t) = true
is_ok (Err n) = false

-- the numbers of these fields are stored from a place of a table on
pub record Taking (line : List ℕ) (at : ℕ) (table : List ℕ) (base : ℕ) (after : List ℕ) (taken : Result Taken ℕ) : Type 0 where
  pub stores : after ≡ stored table base (numbers_of (fields_from line at))
  pub counts : count_of taken ≡ length (numbers_of (fields_from line at))
  pub begins : IfOk taken (λ t. t.first ≡ get_or (numbers_of (fields_from line at)) 0 0)
  pub numbers : is_ok taken ≡ every is_number (fields_from line at)
  pub few : count_of taken + at ≤ length line + 1

-- room for n bytes more
pub record Fits (r : Reading) (n : ℕ) : Type 0 where
  pub lines : r.lines + n < 4294967296
  pub numbers : r.numbers + n < 4294967296
  pub cells : r.cells ≤ r.lines
  pub pins : r.pins ≤ r.lines
  pub nets : r.nets ≤ r.lines
  pub splits : r.splits ≤ r.lines

-- the fields behind a record's word
pub record Placed (r : Reading) (sort : Sort) (fs : List (List ℕ)) (numbers starts : List ℕ) (r' : Result Reading BrokenText) (numbers' starts' : List ℕ) (n : ℕ) : Type 0 where
  pub reading : r' ≡ placed_read r sort fs
  pub numbers_stored : numbers' ≡ stored numbers r.numbers (numbers_of fs)
  pub starts_stored : starts' ≡ stored starts r.lines (r.numbers ∷ [])
  pub few : (reading_in r').numbers ≤ r.numbers + n

-- a line
pub record Line (line : List ℕ) (r : Reading) (numbers starts : List ℕ) (r' : Result Reading BrokenText) (numbers' starts' : List ℕ) : Type 0 where
  pub reading : r' ≡ line_read r line
  pub numbers_stored : numbers' ≡ stored numbers r.numbers (line_numbers r.latest line)
  pub starts_stored : starts' ≡ stored starts r.lines (line_starts r.latest r.numbers line)
  pub few : (reading_in r').numbers ≤ r.numbers + length line

-- a text: what is read of it, with the numbers and the starts of its lines in two tables as far as they reach
pub record Text (text numbers starts : List ℕ) (r : Result Reading BrokenText) (numbers' starts' : List ℕ) : Type 0 where
  pub reading : r ≡ (reading_of text).reading
  pub numbers_stored : numbers' ≡ stored numbers 0 (reading_of text).numbers
  pub starts_stored : starts' ≡ stored starts 0 (reading_of text).starts
