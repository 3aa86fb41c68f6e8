-- What an evaluation answers and leaves, and its bits as words.
use Rattle.std.specs.Prelude.{◌≡◌, Result, Bool, true, ◌&&◌, List, ℕ, ◌+◌, ◌-◌, ◌*◌, ◌/◌, ◌%◌, ◌<◌, ◌≤◌, length, get_or, ◌==◌}
use Rattle.laws.specs.Tests.{one}
use Rattle.rules.specs.declared.Refusal.{Refusal}
use Rattle.rules.specs.Work.{bit}
use Rattle.rules.specs.Tables.{held}
use Rattle.rules.specs.Refusals.{drivers_fit}
use Rattle.rules.specs.Answers.{done_of, drivers_graph, source_of, evaluate_number, pin_bits}

-- the whole promise: bits is the table as it was lent, bits' as it comes back
pub record Evaluated (ws : List ℕ) (pins : ℕ) (sources bits bits' : List ℕ) (r : Result (Unit {0}) Refusal) : Type 0 where
  pub answer : r ≡ done_of (evaluate_number pins ws sources (length bits))
  pub held_bits : bits' ≡ held (evaluate_number pins ws sources (length bits)) (pin_bits pins ws sources) (length bits)

-- 2, beside the driver table: a word for each pin
abbrev pub lengths_fit : ℕ → ℕ → ℕ → Bool
lengths_fit pins sources bits = (sources == pins + 1) && (bits == pins + 1)

-- the bit of a pin of a table of m pins, pin 0 with them
abbrev pub pin_bit : List ℕ → List ℕ → ℕ → ℕ → Bool
pin_bit ws sources m u = bit (drivers_graph (m - 1) ws) (source_of sources) u

-- the bit of a literal, from a table of bits
abbrev pub literal_word : List ℕ → ℕ → ℕ
literal_word bits l = (get_or bits (l / 2) 0 + l % 2) % 2

-- the bits of the pins below u are in the table
pub record Filling (ws sources bits : List ℕ) (u : ℕ) : Type 0 where
  pub low : 1 ≤ length bits
  pub fits : drivers_fit ws (length bits - 1) ≡ true
  pub drivers_long : length ws ≡ 3 * length bits
  pub sources_long : length sources ≡ length bits
  pub done : (v : ℕ) → v < u → get_or bits v 0 ≡ one (pin_bit ws sources (length bits) v)
