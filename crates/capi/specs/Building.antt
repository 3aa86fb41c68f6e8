-- What trazz_build answers and leaves: the graph of a netlist by the rules, whatever was lent, with its five tallies in a table of counts of five words
-- or more. A shorter one is a refusal 2, in document 01's place: after 1, and before what follows.
use Rattle.std.specs.Prelude.{◌≡◌, Result, Ok, Err, ◌&&◌, List, [], ◌∷◌, ℕ, length, if◌then◌else◌}
use Rattle.laws.specs.Tests.{◌≤?◌, or_else, refuse}
use Rattle.laws.specs.Words.{zeros}
use Rattle.rules.specs.declared.NetlistCounts.{NetlistCounts}
use Rattle.rules.specs.declared.Rooms.{Rooms}
use Rattle.rules.specs.declared.Tally.{Tally}
use Rattle.rules.specs.declared.Refusal.{Refusal}
use Rattle.rules.specs.Netlist.{Netlist}
use Rattle.rules.specs.Bounds.{netlist_within, rooms_within}
use Rattle.rules.specs.Build.{graph_of, tally}
use Rattle.rules.specs.Tables.{held}
use Rattle.rules.specs.Answers.{BuildLengths, BuildTables, number_of, build_number, build_tables}
use Rattle.roles.specs.Reading.{tables}

abbrev pub netlist_of : ℕ → ℕ → ℕ → NetlistCounts
netlist_of cells pins nets = record { cells = cells; pins = pins; nets = nets }

abbrev pub rooms_of : ℕ → ℕ → ℕ → ℕ → ℕ → Rooms
rooms_of pins outputs dffs rams fanouts = record { pins = pins; outputs = outputs; dffs = dffs; rams = rams; fanouts = fanouts }

-- ---- the tallies as they are told
abbrev pub tally_words : Tally → List ℕ
tally_words t = t.pins ∷ t.gates ∷ t.outputs ∷ t.dffs ∷ t.rams ∷ []

-- n is the table of counts as it was lent, n' as it comes back
pub record MadeTold (t : Tally) (n n' : List ℕ) (k : ℕ) : Type 0 where
  pub answer : k ≡ refuse 2 (5 ≤? length n)
  pub counts : n' ≡ held k (tally_words t) (length n)

abbrev pub built_number : ℕ → Result Tally Refusal → ℕ
built_number room (Ok t) = refuse 2 (5 ≤? room)
built_number room (Err e) = number_of e

abbrev pub built_words : Result Tally Refusal → List ℕ
built_words (Ok t) = tally_words t
built_words (Err e) = []

pub record BuiltTold (r : Result Tally Refusal) (n n' : List ℕ) (k : ℕ) : Type 0 where
  pub answer : k ≡ built_number (length n) r
  pub counts : n' ≡ held k (built_words r) (length n)

-- what the call below is asked with: no starts where the counts have no room
abbrev pub starts_asked : ℕ → List ℕ → List ℕ
starts_asked room starts = if 5 ≤? room then starts else []

-- ---- the call
unfoldable pub graph_number : ℕ → NetlistCounts → Rooms → Netlist → BuildLengths → ℕ
graph_number room c rm n l = or_else (refuse 1 (netlist_within c && rooms_within rm)) (or_else (refuse 2 (5 ≤? room)) (build_number c rm n l))

pub record GraphBuilt (c : NetlistCounts) (rm : Rooms) (kinds starts list pins nets : List ℕ) (l : BuildLengths) (n : List ℕ) (t' : BuildTables) (n' w' : List ℕ) (r : ℕ) : Type 0 where
  pub answer : r ≡ graph_number (length n) c rm (tables kinds starts list pins nets) l
  pub results : t' ≡ build_tables r (tables kinds starts list pins nets) l
  pub counts : n' ≡ held r (tally_words (tally (graph_of (tables kinds starts list pins nets)))) (length n)
  pub work : w' ≡ zeros l.work
