-- What building's calls leave of their tables.
use Rattle.std.specs.Prelude.{◌≡◌, true, false, Option, Some, None, Result, List, ℕ, ◌+◌, ◌*◌, ◌≤◌, length}
use Rattle.laws.specs.Tests.{or_else, refuse}
use Rattle.laws.specs.Words.{zeros}
use Rattle.rules.specs.declared.NetlistCounts.{NetlistCounts}
use Rattle.rules.specs.declared.Rooms.{Rooms}
use Rattle.rules.specs.declared.Refusal.{Refusal}
use Rattle.rules.specs.declared.Tally.{Tally}
use Rattle.rules.specs.Netlist.{Netlist, size}
use Rattle.rules.specs.Build.{graph_of, tally}
use Rattle.rules.specs.Refusals.{netlist_number, room_fits}
use Rattle.rules.specs.Answers.{BuildLengths, BuildTables, build_number, build_tables, build_answer}
use Rattle.checks.specs.Ready.{Asked}
use Rattle.visits.specs.Drafting.{Sized}
use Rattle.draws.specs.Drawing.{Undrawn}

-- the result tables together, how long they are, and all of them 0
abbrev pub lent : List ℕ → List ℕ → List ℕ → List ℕ → List ℕ → List ℕ → List ℕ → BuildTables
lent ws os fs rs ls ss es = record { drivers = ws; outputs = os; dffs = fs; rams = rs; literals = ls; starts = ss; fanouts = es }

abbrev pub lengths_of : BuildTables → ℕ → BuildLengths
lengths_of t work = record {
  drivers = length t.drivers;
  outputs = length t.outputs;
  dffs = length t.dffs;
  rams = length t.rams;
  literals = length t.literals;
  starts = length t.starts;
  fanouts = length t.fanouts;
  work = work;
}

abbrev pub blank : BuildLengths → BuildTables
blank l = lent (zeros l.drivers) (zeros l.outputs) (zeros l.dffs) (zeros l.rams) (zeros l.literals) (zeros l.starts) (zeros l.fanouts)

-- the lengths that rooms and a number of netlist pins ask for
abbrev pub asked : ℕ → Rooms → ℕ → BuildLengths
asked m rm work = record {
  drivers = 3 * (rm.pins + 1);
  outputs = rm.outputs;
  dffs = 3 * rm.dffs;
  rams = 123 * rm.rams;
  literals = m;
  starts = rm.pins + 2;
  fanouts = rm.fanouts;
  work = work;
}

-- ---- an accepted netlist, and tables of 0 with the events in the work words
pub data Unfinished (n : Netlist) (rm : Rooms) (w : List ℕ) (t : BuildTables) : Type 0 where
  unfinished : t ≡ blank (asked (size n) rm (length w)) → Undrawn n rm w t.drivers t.outputs t.dffs t.rams → Unfinished n rm w t

-- every table as the rules say; or one has less room than the graph needs
pub data Finished (n : Netlist) (rm : Rooms) (w : List ℕ) (t : BuildTables) (w' : List ℕ) (t' : BuildTables) (r : Option Tally) : Type 0 where
  finished : (u : Tally) → r ≡ Some u → room_fits (tally (graph_of n)) rm ≡ true → t' ≡ build_tables 0 n (asked (size n) rm (length w)) → u ≡ tally (graph_of n) → length w' ≡ length w
      → Finished n rm w t w' t' r
  too_small : r ≡ None → room_fits (tally (graph_of n)) rm ≡ false → lengths_of t' 0 ≡ lengths_of t 0 → length w' ≡ length w → Finished n rm w t w' t' r

-- ---- tables that 1 and 2 let pass
pub data Waiting (kinds starts list pins : List ℕ) (rm : Rooms) (w : List ℕ) (t : BuildTables) : Type 0 where
  waiting : Asked kinds starts list pins w → t ≡ blank (asked (length list) rm (length w)) → Sized (length list) rm → length kinds ≤ 1048576
      → 8 * length list + 8 * rm.pins + 1024 ≤ length w → Waiting kinds starts list pins rm w t

abbrev pub number : Netlist → Rooms → ℕ
number n rm = or_else (netlist_number n) (refuse 11 (room_fits (tally (graph_of n)) rm))

-- 3 to 11, and the graph
pub record BuiltAs (n : Netlist) (rm : Rooms) (w w' : List ℕ) (t' : BuildTables) (r : Result Tally Refusal) : Type 0 where
  pub answer : r ≡ build_answer (number n rm) n
  pub tables : t' ≡ build_tables (number n rm) n (asked (size n) rm (length w))
  pub long : length w' ≡ length w

-- ---- the call: the answer and every lent table by the rules, whatever was lent; all work words 0
pub record Answered (c : NetlistCounts) (rm : Rooms) (n : Netlist) (l : BuildLengths) (w' : List ℕ) (t' : BuildTables) (r : Result Tally Refusal) : Type 0 where
  pub answer : r ≡ build_answer (build_number c rm n l) n
  pub tables : t' ≡ build_tables (build_number c rm n l) n l
  pub work : w' ≡ zeros l.work
