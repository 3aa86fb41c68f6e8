-- The netlist of lent tables, and what each test reads of it.
use Rattle.std.specs.Prelude.{◌≡◌, Bool, true, ◌&&◌, ◌||◌, List, [], ℕ, ◌+◌, ◌*◌, ◌<◌, ◌≤◌, length, get_or, ◌==◌}
use Rattle.laws.specs.Tests.{◌≤?◌, same, or_else, refuse}
use Rattle.laws.specs.Lists.{count, every, upto}
use Rattle.rules.specs.Netlist.{Netlist, cell_of, name_of, bit_of, named_bit, pin_allowed, has_must}
use Rattle.rules.specs.declared.NetlistCounts.{NetlistCounts}
use Rattle.rules.specs.Bounds.{netlist_within}
use Rattle.rules.specs.Refusals.{tables_number}
use Rattle.rules.specs.Answers.{netlist_long}
use Rattle.marks.specs.Marking.{Clear}
use Rattle.pins.specs.Words.{pin_at, ranged}
use Rattle.lists.specs.Parts.{laid, own, cell_list, Starts}

abbrev pub tables : List ℕ → List ℕ → List ℕ → List ℕ → List ℕ → Netlist
tables kinds starts list pins nets = record { kinds = kinds; starts = starts; list = list; pins = pins; nets = nets }

-- a test that reads only some tables says the same of any others
abbrev pub with_kinds : List ℕ → Netlist
with_kinds kinds = tables kinds [] [] [] []

abbrev pub without_nets : List ℕ → List ℕ → List ℕ → List ℕ → Netlist
without_nets kinds starts list pins = tables kinds starts list pins []

abbrev pub kind_fits : ℕ → ℕ → Bool
kind_fits kind cell = (kind ≤? 12) && same (kind == 0) (cell == 0)

-- ---- the second rule: starts, pins and lists
-- a pin stands once in its own cell's list
abbrev pub once : List ℕ → List ℕ → List ℕ → ℕ → Bool
once starts list pins p = count p (cell_list starts list (pin_at pins 0 p)) == 1

unfoldable pub lists_right : List ℕ → ℕ → List ℕ → List ℕ → ℕ → Bool
lists_right starts cells list pins nets =
    laid starts cells (length list) && every (λ p. ranged pins cells nets p && once starts list pins p) (upto (length list))
    && every (λ c. every (own pins (length list) c) (cell_list starts list c)) (upto cells)

-- the same as facts
pub record Listed (starts list pins : List ℕ) (cells : ℕ) : Type 0 where
  pub starts_are : Starts starts cells (length list)
  pub long : 5 * length list ≤ length pins
  pub cell : (p : ℕ) → p < length list → pin_at pins 0 p < cells
  pub own_cell : (c p : ℕ) → c < cells → 0 < count p (cell_list starts list c) → (p < length list) × (pin_at pins 0 p ≡ c)
  pub once_there : (p : ℕ) → p < length list → count p (cell_list starts list (pin_at pins 0 p)) ≡ 1
  pub below : (j : ℕ) → j < length list → get_or list j 0 < length list
  pub single : (p : ℕ) → count p list ≤ 1

-- what the test leaves: its answer, and where it passes 544 words that are still clear
pub record ListsTested (starts : List ℕ) (cells : ℕ) (list pins : List ℕ) (nets : ℕ) (w' : List ℕ) (r : Bool) : Type 0 where
  pub answer : r ≡ lists_right starts cells list pins nets
  pub clear : r ≡ true → Clear w' (length list) 544

-- ---- the fourth rule: allowed pins, none twice, required pins
abbrev pub alone : Netlist → ℕ → Bool
alone n p = (cell_of n p == 0) || (length (named_bit n (cell_of n p) (name_of n p) (bit_of n p)) == 1)

unfoldable pub pins_right : List ℕ → List ℕ → List ℕ → List ℕ → Bool
pins_right kinds starts list pins =
    every (pin_allowed (without_nets kinds starts list pins)) (upto (length list)) && every (has_must (without_nets kinds starts list pins)) (upto (length kinds))

-- both
unfoldable pub pins_told : List ℕ → List ℕ → List ℕ → List ℕ → ℕ → Bool
pins_told kinds starts list pins nets = lists_right starts (length kinds) list pins nets && pins_right kinds starts list pins

-- ---- tables of the lengths that 2 asks for, and work words that are 0
pub record Long (kinds starts list pins work : List ℕ) : Type 0 where
  pub starts_long : length starts ≡ length kinds + 1
  pub pins_long : length pins ≡ 5 * length list
  pub clear : Clear work 0 (length list + 544)

-- ---- 1 and 2
-- 2 of a netlist, by the lengths of its tables
unfoldable pub long_by : NetlistCounts → ℕ → ℕ → ℕ → ℕ → ℕ → Bool
long_by c kinds starts list pins nets =
    (kinds == c.cells) && (starts == c.cells + 1) && (list == c.pins) && (pins == 5 * c.pins) && (nets == c.nets)

-- 1 to 6 of a call on the netlist tables alone
unfoldable pub check_tables_number : NetlistCounts → Netlist → ℕ → ℕ
check_tables_number c n work =
    or_else (refuse 1 (netlist_within c)) (or_else (refuse 2 (netlist_long c n && (8 * c.pins + 1024 ≤? work))) (tables_number n))
