-- Which texts are netlists, and what is read of a text. A text is its lines; a line is a record: a word and numbers behind it, with one tab
-- before each. Records of cells come first, then pins, nets and split levels. What is read is a function of the bytes, so a text that is
-- accepted has one reading.
use Rattle.std.specs.Prelude.{Option, Some, None, Result, Ok, Err, Bool, true, false, ◌&&◌, List, [], ◌∷◌, ◌++◌, ℕ, ◌+◌, length, get_or, if◌then◌else◌, ◌==◌, codes}
use Rattle.laws.specs.Tests.{◌≤?◌}
use Rattle.laws.specs.Lists.{every, over}
use Rattle.std.specs.Str.{bytes_eq}
use Rattle.texts.specs.declared.Sort.{Sort}
use Rattle.texts.specs.declared.Sort.TheVariants.{Cell, Pin, Net, Split}
use Rattle.texts.specs.declared.Reading.{Reading}
use Rattle.texts.specs.declared.Fault.{Fault}
use Rattle.texts.specs.declared.Fault.TheVariants.{NotRecord, OutOfOrder, NotNumber, WrongNumbers}
use Rattle.texts.specs.declared.BrokenText.{BrokenText}
use Rattle.texts.specs.declared.BrokenText.TheVariants.{TooLong, Line}
use Rattle.texts.specs.Text.{lines, fields, number_of}

-- ---- one line
-- the words that begin a record
abbrev pub cell_word : List ℕ
cell_word = codes "cell"

abbrev pub pin_word : List ℕ
pin_word = codes "pin"

abbrev pub net_word : List ℕ
net_word = codes "net"

abbrev pub split_word : List ℕ
split_word = codes "split"

-- the sort of the record that a word begins
abbrev pub sort_of : List ℕ → Option Sort
sort_of w =
    if bytes_eq w cell_word then Some Cell
    else (if bytes_eq w pin_word then Some Pin else (if bytes_eq w net_word then Some Net else (if bytes_eq w split_word then Some Split else None)))

-- the place of a sort: cells come first
abbrev pub rank : Sort → ℕ
rank Cell = 0
rank Pin = 1
rank Net = 2
rank Split = 3

abbrev pub first_of : List (List ℕ) → List ℕ
first_of [] = []
first_of (w ∷ ws) = w

abbrev pub rest_of : List (List ℕ) → List (List ℕ)
rest_of [] = []
rest_of (w ∷ ws) = ws

abbrev pub is_some : Option ℕ → Bool
is_some None = false
is_some (Some v) = true

abbrev pub is_number : List ℕ → Bool
is_number w = is_some (number_of w)

-- a number in front of others, which are not read where it is none
abbrev pub in_front : Option ℕ → List ℕ → List ℕ
in_front None vs = []
in_front (Some v) vs = v ∷ vs

-- the numbers of the fields, up to the first that is none
unfoldable pub numbers_of : List (List ℕ) → List ℕ
numbers_of [] = []
numbers_of (w ∷ ws) = in_front (number_of w) (numbers_of ws)

-- how many numbers a record has: a cell its kind and any number of pins, a pin five, a split level one; a net is 0, or 1, or 2 and a pin
abbrev pub shaped : Sort → ℕ → ℕ → Bool
shaped Cell n first = 1 ≤? n
shaped Pin n first = n == 5
shaped Net n first = if first ≤? 1 then n == 1 else ((first == 2) && (n == 2))
shaped Split n first = n == 1

abbrev pub sort_in : List ℕ → Option Sort
sort_in line = sort_of (first_of (fields line))

abbrev pub numbers_in : List ℕ → List ℕ
numbers_in line = numbers_of (rest_of (fields line))

-- is a line a record that may stand behind those that came before?
abbrev pub placed : Sort → Option Sort → Bool
placed latest None = false
placed latest (Some sort) = rank latest ≤? rank sort

-- ---- the whole text
-- what is read so far: the counts, all numbers one line after the other, and where each line's begin
pub record Held : Type 0 where
  pub reading : Result Reading BrokenText
  pub numbers : List ℕ
  pub starts : List ℕ

-- nothing read yet
abbrev pub begun : Reading
begun = record { lines = 0; numbers = 0; latest = Cell; cells = 0; pins = 0; nets = 0; splits = 0 }

abbrev pub nothing : Result Reading BrokenText → Held
nothing r = record { reading = r; numbers = []; starts = [] }

-- what was read, of a broken text too
abbrev pub reading_in : Result Reading BrokenText → Reading
reading_in (Ok r) = r
reading_in (Err (Line r fault)) = r
reading_in (Err TooLong) = begun

-- the numbers of a line that is placed, and where they begin
abbrev pub line_numbers : Sort → List ℕ → List ℕ
line_numbers latest line = if placed latest (sort_in line) then numbers_in line else []

abbrev pub line_starts : Sort → ℕ → List ℕ → List ℕ
line_starts latest n line = if placed latest (sort_in line) then n ∷ [] else []

-- a line more, of which n numbers were kept: broken, or a record of a sort
abbrev pub broken : Reading → ℕ → Fault → BrokenText
broken r n fault = Line (record {
  lines = r.lines + 1;
  numbers = r.numbers + n;
  latest = r.latest;
  cells = r.cells;
  pins = r.pins;
  nets = r.nets;
  splits = r.splits;
}) fault

abbrev pub counted : Reading → ℕ → Sort → Reading
counted r n Cell = record { lines = r.lines + 1; numbers = r.numbers + n; latest = Cell; cells = r.cells + 1; pins = r.pins; nets = r.nets; splits = r.splits }
counted r n Pin = record { lines = r.lines + 1; numbers = r.numbers + n; latest = Pin; cells = r.cells; pins = r.pins + 1; nets = r.nets; splits = r.splits }
counted r n Net = record { lines = r.lines + 1; numbers = r.numbers + n; latest = Net; cells = r.cells; pins = r.pins; nets = r.nets + 1; splits = r.splits }
counted r n Split = record { lines = r.lines + 1; numbers = r.numbers + n; latest = Split; cells = r.cells; pins = r.pins; nets = r.nets; splits = r.splits + 1 }

-- the fields behind the word of a record: one of them is no number; or there are too many or too few, or a net is none of its cases
unfoldable pub placed_read : Reading → Sort → List (List ℕ) → Result Reading BrokenText
placed_read r sort fs =
    if every is_number fs then (if shaped sort (length (numbers_of fs)) (get_or (numbers_of fs) 0 0) then Ok (counted r (length (numbers_of fs)) sort)
    else Err (broken r (length (numbers_of fs)) WrongNumbers)) else Err (broken r (length (numbers_of fs)) NotNumber)

-- a line's word and the fields behind it: the word begins no record, or one whose sort comes before that of a line above
abbrev pub word_read : Reading → Option Sort → List (List ℕ) → Result Reading BrokenText
word_read r None fs = Err (broken r 0 NotRecord)
word_read r (Some sort) fs = if rank r.latest ≤? rank sort then placed_read r sort fs else Err (broken r 0 OutOfOrder)

-- a whole line
unfoldable pub line_read : Reading → List ℕ → Result Reading BrokenText
line_read r line = word_read r (sort_in line) (rest_of (fields line))

-- a line more: after a broken line nothing is read
abbrev pub more_of : Result Reading BrokenText → Held → List ℕ → Held
more_of (Ok r) h line = record {
  reading = line_read r line;
  numbers = h.numbers ++ line_numbers r.latest line;
  starts = h.starts ++ line_starts r.latest r.numbers line;
}
more_of (Err b) h line = h

unfoldable pub more : Held → List ℕ → Held
more h line = more_of h.reading h line

-- the longest text that is read
abbrev pub longest : ℕ
longest = 262144

-- the reading of a text. Of one that is longer no line is read. Where a line is broken, `lines` is the number of the first that is, from 1
unfoldable pub reading_of : List ℕ → Held
reading_of text = if length text ≤? longest then over more (nothing (Ok begun)) (lines text) else nothing (Err TooLong)
