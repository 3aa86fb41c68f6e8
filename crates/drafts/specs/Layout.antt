-- Where building keeps things in its work words, with m netlist pins and room for r graph pins. A cell that has pins is known by where its list
-- begins, as no other list begins there.
--   0            nothing
--   m            by cell, a flip-flop's own pin
--   2 * m        the events of step 2's visits
--   4 * m        by input port and edge, its flag
--   6 * m        by cell, the number of its record, from 1; 0 where it has none yet
--   7 * m        by netlist pin, its literal
--   8 * m        by literal, 1 where it is among the outputs
--   8 * m + 2 * r + 2   the index of known pairs
use Rattle.std.specs.Prelude.{◌≡◌, List, ℕ, suc, ◌+◌, ◌*◌, ◌<◌, length, get_or, if◌then◌else◌}
use Rattle.laws.specs.Tests.{◌<?◌}
use Rattle.laws.specs.Lists.{member}
use Rattle.laws.proofs.Indices.{place}
use Rattle.rules.specs.declared.Edge.{Edge}
use Rattle.rules.specs.declared.Driver.{Driver}
use Rattle.rules.specs.Netlist.{Netlist, size, cells, kind_of, dff, ram}
use Rattle.rules.specs.Graph.{first_pin}
use Rattle.rules.specs.Tables.{edge_word}
use Rattle.rules.specs.Build.{Build, is_flag}

abbrev pub index_at : ℕ → ℕ → ℕ
index_at m r = 8 * m + 2 * r + 2

-- where a cell's list begins
abbrev pub start_of : Netlist → ℕ → ℕ
start_of n c = get_or n.starts c 0

-- the number from 1 of the first place where x stands, 0 where it does not
unfoldable pub number_in : List ℕ → ℕ → ℕ
number_in l x = if member x l then suc (place x l) else 0

-- the pin of a flag, 0 where there is none
unfoldable pub flag_word : List Driver → ℕ → Edge → ℕ
flag_word ds q e = if first_pin (is_flag q e) ds <? length ds then first_pin (is_flag q e) ds else 0

-- the flags of these drivers
pub record Flags (m : ℕ) (w : List ℕ) (ds : List Driver) : Type 0 where
  pub words : (q : ℕ) (e : Edge) → q < m → get_or w (4 * m + 2 * q + edge_word e) 0 ≡ flag_word ds q e

-- what step 2 has written of literals and records
pub record Written (n : Netlist) (w : List ℕ) (b : Build) : Type 0 where
  pub lits : (p : ℕ) → p < size n → get_or w (7 * size n + p) 0 ≡ b.lits p
  pub flop_numbers : (c : ℕ) → c < cells n → kind_of n c ≡ dff → get_or w (6 * size n + start_of n c) 0 ≡ number_in b.flops c
  pub flop_pins : (c : ℕ) → c < cells n → kind_of n c ≡ dff → get_or w (size n + start_of n c) 0 ≡ b.flop_pin c
  pub ram_numbers : (c : ℕ) → c < cells n → kind_of n c ≡ ram → start_of n c < start_of n (suc c) → get_or w (6 * size n + start_of n c) 0 ≡ number_in b.rams c
