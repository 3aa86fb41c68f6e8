-- The words of a pin, and the tests on a pin that read kinds and pins alone.
use Rattle.std.specs.Prelude.{Bool, ◌&&◌, List, [], ℕ, ◌+◌, ◌*◌, ◌<◌, ◌≤◌, length, get_or}
use Rattle.laws.specs.Tests.{◌<?◌, ◌≤?◌}
use Rattle.laws.specs.Lists.{any}
use Rattle.rules.specs.Netlist.{Netlist, cell_of, kind_of, slots, in_slot}

abbrev pub pin_at : List ℕ → ℕ → ℕ → ℕ
pin_at pins i p = get_or pins (5 * p + i) 0

abbrev pub ranged : List ℕ → ℕ → ℕ → ℕ → Bool
ranged pins cells nets p = (pin_at pins 0 p <? cells) && (pin_at pins 4 p <? nets) && (pin_at pins 3 p ≤? 1)

-- a netlist of kinds and pins: a test that reads these alone says the same of any other tables
abbrev pub with_pins : List ℕ → List ℕ → Netlist
with_pins kinds pins = record { kinds = kinds; starts = []; list = []; pins = pins; nets = [] }

-- one of the pins that the kind of its cell may have
abbrev pub slotted : List ℕ → List ℕ → ℕ → Bool
slotted kinds pins p = any (in_slot (with_pins kinds pins) p) (slots (kind_of (with_pins kinds pins) (cell_of (with_pins kinds pins) p)))

-- a pin that lies in the table and whose cell has one of the 13 kinds
pub record Held (kinds pins : List ℕ) (p : ℕ) : Type 0 where
  pub long : 5 * p + 4 < length pins
  pub cell : pin_at pins 0 p < length kinds
  pub kind : get_or kinds (pin_at pins 0 p) 0 ≤ 12

pub record Ranged (kinds pins : List ℕ) (size : ℕ) : Type 0 where
  pub long : 5 * size ≤ length pins
  pub cell : (p : ℕ) → p < size → pin_at pins 0 p < length kinds
  pub kind : (c : ℕ) → c < length kinds → get_or kinds c 0 ≤ 12
