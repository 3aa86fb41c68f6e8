-- What the cells' lists are to be, of starts, lists, pins and kinds alone.
use Rattle.std.specs.Prelude.{◌≡◌, Bool, not, ◌&&◌, ◌||◌, List, ℕ, ◌+◌, ◌-◌, ◌*◌, ◌/◌, ◌<◌, ◌≤◌, length, get_or, take, drop, ◌==◌}
use Rattle.laws.specs.Tests.{◌<?◌, ◌≤?◌}
use Rattle.laws.specs.Lists.{every, keep, upto}
use Rattle.rules.specs.Netlist.{slots, kind_table, unfit}
use Rattle.kinds.specs.Slots.{kind_word}
use Rattle.pins.specs.Words.{pin_at}

-- ---- the starts
abbrev pub rising : List ℕ → ℕ → Bool
rising starts cells = every (λ c. get_or starts c 0 ≤? get_or starts (c + 1) 0) (upto cells)

abbrev pub laid : List ℕ → ℕ → ℕ → Bool
laid starts cells size = (get_or starts 0 0 == 0) && (get_or starts cells 0 == size) && rising starts cells

-- the same as facts, by cell
pub record Starts (starts : List ℕ) (cells size : ℕ) : Type 0 where
  pub long : cells < length starts
  pub first : get_or starts 0 0 ≡ 0
  pub last : get_or starts cells 0 ≡ size
  pub rise : (c : ℕ) → c < cells → get_or starts c 0 ≤ get_or starts (c + 1) 0
  pub within : (c : ℕ) → c ≤ cells → get_or starts c 0 ≤ size

-- ---- the lists
abbrev pub cell_list : List ℕ → List ℕ → ℕ → List ℕ
cell_list starts list c = take (get_or starts (c + 1) 0 - get_or starts c 0) (drop (get_or starts c 0) list)

-- a pin, and one of this cell
abbrev pub own : List ℕ → ℕ → ℕ → ℕ → Bool
own pins size cell p = (p <? size) && (pin_at pins 0 p == cell)

unfoldable pub fitting : List ℕ → List ℕ → List ℕ → ℕ → Bool
fitting starts list pins c = every (own pins (length list) c) (cell_list starts list c)

-- each entry is one of the pins
pub record Inside (list pins : List ℕ) : Type 0 where
  pub long : 5 * length list ≤ length pins
  pub below : (j : ℕ) → j < length list → get_or list j 0 < length list

-- ---- required pins
-- each cell has one of the 13 kinds
pub record Kinded (kinds : List ℕ) : Type 0 where
  pub kind : (c : ℕ) → c < length kinds → get_or kinds c 0 ≤ 12

abbrev pub unnamed : List ℕ → ℕ → ℕ → Bool
unnamed pins name p = not (pin_at pins 1 p == name)

-- as the constant table says it, by name
abbrev pub must_by : List ℕ → List ℕ → ℕ → ℕ → Bool
must_by pins l kind name = not (kind_word kind name / 256 == 1) || not (every (unnamed pins name) l)

-- as the rules say it
abbrev pub musts_in : List ℕ → List ℕ → ℕ → Bool
musts_in pins l kind = every (λ s. not s.must || (0 <? length (keep (λ p. pin_at pins 1 p == s.name) l))) (slots (get_or kind_table kind unfit))

unfoldable pub musts : List ℕ → List ℕ → List ℕ → List ℕ → ℕ → Bool
musts kinds starts list pins c = musts_in pins (cell_list starts list c) (get_or kinds c 0)
