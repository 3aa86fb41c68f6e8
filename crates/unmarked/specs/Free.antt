-- What the test for markers reads.
use Rattle.std.specs.Prelude.{◌≡◌, Bool, not, ◌||◌, List, ℕ, ◌+◌, ◌*◌, ◌<◌, ◌≤◌, length, get_or}
use Rattle.laws.specs.Lists.{every}
use Rattle.rules.specs.Netlist.{Netlist, Kind, size, name_of}
use Rattle.rules.specs.Refusals.{must_be_logic, mark, is_none, logic_pins}
use Rattle.markers.specs.Marks.{mark_word}

-- the words from m on tell each pin's marker
pub record Told (n : Netlist) (w : List ℕ) : Type 0 where
  pub long : 2 * size n ≤ length w
  pub marks : (p : ℕ) → p < size n → get_or w (size n + p) 0 ≡ mark_word (mark n p)

-- a pin of a cell of this kind has a logic bit where it must
unfoldable pub free_if : Netlist → Kind → ℕ → Bool
free_if n k p = not (must_be_logic k (name_of n p)) || is_none (mark n p)

unfoldable pub cell_free : Netlist → ℕ → Bool
cell_free n c = every (λ p. is_none (mark n p)) (logic_pins n c)
