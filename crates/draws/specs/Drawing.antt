-- Before building begins, and when it is done.
use Rattle.std.specs.Prelude.{◌≡◌, List, ℕ, ◌+◌, ◌*◌, ◌<◌, ◌≤◌, Option, Some, None, false, length, get_or}
use Rattle.laws.specs.Words.{zeros, filled}
use Rattle.rules.specs.declared.Rooms.{Rooms}
use Rattle.rules.specs.declared.Tally.{Tally}
use Rattle.rules.specs.Netlist.{Netlist, size, cells}
use Rattle.rules.specs.Build.{step2, step3, graph_of, tally}
use Rattle.rules.specs.Refusals.{Accepted, room_fits}
use Rattle.roles.specs.Reading.{Fits}
use Rattle.prepares.specs.Prepared.{Cleared}
use Rattle.drafts.specs.declared.Draft.{Draft}
use Rattle.drafts.specs.Table.{Table, drafted}
use Rattle.drafts.specs.Layout.{index_at}
use Rattle.ends.specs.Ended.{all_records, all_rows}
use Rattle.visits.specs.Drafting.{Sized}

-- an accepted netlist, rooms within their bounds, tables of their lengths that are 0, and words that hold the events and nothing else
pub data Empty (n : Netlist) (rm : Rooms) (w ws os : List ℕ) : Type 0 where
  empty : Fits n → Accepted n → Cleared n w → Sized (size n) rm → ws ≡ zeros (3 * (rm.pins + 1)) → os ≡ zeros rm.outputs → 8 * size n + 8 * rm.pins + 1024 ≤ length w
      → Empty n rm w ws os

abbrev pub no_tally : Tally
no_tally = record { pins = 0; gates = 0; outputs = 0; dffs = 0; rams = 0 }

-- a draft at the beginning, on the tables that it was lent: it counts nothing yet
abbrev pub fresh : Netlist → Rooms → Draft → Draft
fresh n rm d = record { drivers = d.drivers; work = d.work; at = index_at (size n) rm.pins; tally = no_tally }

-- such tables with those of records, and a number of cells within its bound
pub data Undrawn (n : Netlist) (rm : Rooms) (w ws os fs rs : List ℕ) : Type 0 where
  undrawn : Empty n rm w ws os → fs ≡ zeros (3 * rm.dffs) → rs ≡ zeros (123 * rm.rams) → cells n ≤ 1048576 → Undrawn n rm w ws os fs rs

-- the graph of the rules is there, with its tally, and the literals in the work words; or a table has no room for it
pub data Drawn (n : Netlist) (rm : Rooms) (w ws os fs rs w' ws' os' fs' rs' : List ℕ) (r : Option Tally) : Type 0 where
  drawn : (t : Tally) → r ≡ Some t → Table (index_at (size n) rm.pins) w' ws' t → drafted ws' t ≡ (step3 n).drivers
      → os' ≡ filled (step2 n).outs rm.outputs → fs' ≡ filled (all_records n) (3 * rm.dffs) → rs' ≡ filled (all_rows n) (123 * rm.rams)
      → ((p : ℕ) → p < size n → get_or w' (7 * size n + p) 0 ≡ (step2 n).lits p)
      → t ≡ tally (graph_of n) → length w' ≡ length w → length ws' ≡ length ws → Drawn n rm w ws os fs rs w' ws' os' fs' rs' r
  no_room : r ≡ None → room_fits (tally (graph_of n)) rm ≡ false → length w' ≡ length w → length ws' ≡ length ws → length os' ≡ length os → length fs' ≡ length fs → length rs' ≡ length rs
      → Drawn n rm w ws os fs rs w' ws' os' fs' rs' r
