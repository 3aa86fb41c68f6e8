-- One split in work words: between splits, after the visits, and at the end.
use Rattle.std.specs.Prelude.{Some, Result, Ok, Err, ◌≡◌, ◌⊎◌, true, List, ◌++◌, map, ℕ, ◌+◌, ◌-◌, ◌*◌, ◌<◌, ◌≤◌, length, get_or, if◌then◌else◌}
use Rattle.laws.specs.Lists.{count, member, flat, over, upto}
use Rattle.laws.specs.Search.{visits, level}
use Rattle.laws.specs.Words.{part}
use Rattle.rules.specs.declared.GraphTables.{GraphTables}
use Rattle.rules.specs.declared.GraphCounts.{GraphCounts}
use Rattle.rules.specs.Graph.{Graph}
use Rattle.rules.specs.Tables.{drivers_in, record_in, ram_in}
use Rattle.rules.specs.Stages.{Joining, Stage, split}
use Rattle.rules.specs.Refusals.{drivers_fit}
use Rattle.cuts.proofs.Joining.{join_by, take_by}
use Rattle.walk.specs.State.{goes, list_of, Going}
use Rattle.members.specs.Set.{Within, SetIn}
use Rattle.reads.specs.Reads.{ins_of}
use Rattle.levels.specs.State.{stops_of}
use Rattle.joins.specs.State.{Holds, low_in}
use Rattle.picks.specs.Tables.{Pushed}
use Rattle.clears.specs.State.{Used}
use Rattle.splits.specs.declared.Spot.{Spot}
use Rattle.splits.specs.declared.Piece.{Piece}
use Rattle.splits.specs.declared.Narrow.{Narrow}

-- the graph of the words, whose driver table has m rows
unfoldable pub graph_of : GraphCounts → List ℕ → List ℕ → List ℕ → List ℕ → ℕ → Graph
graph_of c ws os ds rs m = record {
  drivers = drivers_in ws (m - 1);
  outputs = os;
  dffs = map (record_in ds) (upto c.dffs);
  rams = map (ram_in rs) (upto c.rams);
}

-- the split of the endpoints left, where the stops are the pins handed on before
unfoldable pub split_in : GraphCounts → List ℕ → List ℕ → List ℕ → List ℕ → ℕ → List ℕ → List ℕ → ℕ → Stage
split_in c ws os ds rs m left before d = split (graph_of c ws os ds rs m) left before (Some d)

-- between splits only the stops and the set of the endpoints left are in use
pub record Idle (ws : List ℕ) (m ends : ℕ) (w : List ℕ) (left : ℕ) : Type 0 where
  pub low : 1 ≤ m
  pub few : m ≤ 16777216
  pub fits : drivers_fit ws (m - 1) ≡ true
  pub drivers_long : 3 * m ≤ length ws
  pub flags : (p : ℕ) → p < m → get_or w (m + p) 0 ≤ 1
  pub marks : (j : ℕ) → j < m → get_or w j 0 ≡ 0
  pub middle : (j : ℕ) → 2 * m ≤ j → j < 8 * m → get_or w j 0 ≡ 0
  pub lefts : SetIn w (8 * m) ends left

-- the visits of a split, in order
unfoldable pub order_in : GraphCounts → List ℕ → List ℕ → List ℕ → List ℕ → ℕ → List ℕ → List ℕ → List ℕ
order_in c ws os ds rs m left before = visits (goes ws m before) (flat (ins_of c os ds rs) left)

pub record Prepared (c : GraphCounts) (ws os ds rs : List ℕ) (m : ℕ) (w : List ℕ) (left : ℕ) (w' : List ℕ) (k : ℕ) : Type 0 where
  pub going : Going ws m w' 0 k
  pub list : list_of w' m k ≡ order_in c ws os ds rs m (part w (8 * m) left) (stops_of w m)
  pub levels : (p : ℕ) → p < m → get_or w' (4 * m + p) 0
      ≡ (if member p (order_in c ws os ds rs m (part w (8 * m) left) (stops_of w m)) then level (goes ws m (stops_of w m)) p else 0)
  pub readers : (p : ℕ) → p < m → get_or w' (5 * m + p) 0
      ≡ count p (flat (goes ws m (stops_of w m)) (order_in c ws os ds rs m (part w (8 * m) left) (stops_of w m)) ++ flat (ins_of c os ds rs) (part w (8 * m) left))
  pub stops : (p : ℕ) → p < m → get_or w' (m + p) 0 ≡ get_or w (m + p) 0
  pub rest : (j : ℕ) → 6 * m ≤ j → get_or w' j 0 ≡ get_or w j 0
  pub long : length w' ≡ length w

-- the k pins listed have joined, those that are low, and the endpoints es have read their inputs
pub record WorkedOut (c : GraphCounts) (ws os ds rs es : List ℕ) (m d k : ℕ) (w w' : List ℕ) (n' : ℕ) : Type 0 where
  pub holds : SetIn w' (6 * m) m n'
  pub joins : (s : Joining) → Holds m w 0 s
      → Holds m w' n' (over (take_by (ins_of c os ds rs)) (over (join_by (goes ws m (stops_of w m)) (low_in m w d)) s (list_of w m k)) es)
  pub kept : Within (5 * m) (8 * m) w w'

-- the stops and what lies behind the set are as they were
pub record Stays (m : ℕ) (w w' : List ℕ) : Type 0 where
  pub long : length w' ≡ length w
  pub stops : (p : ℕ) → p < m → get_or w' (m + p) 0 ≡ get_or w (m + p) 0
  pub rest : (j : ℕ) → 8 * m ≤ j → get_or w' j 0 ≡ get_or w j 0

-- a split that was made: its stage stands behind what the tables held
pub record Cut (c : GraphCounts) (ws os ds rs : List ℕ) (at : Spot) (w h t w' h' t' : List ℕ) (p : Piece) : Type 0 where
  pub handed : Pushed h at.handed (split_in c ws os ds rs at.m (part w (8 * at.m) at.left) (stops_of w at.m) at.d).handed h' p.handed
  pub taken : Pushed t at.taken (split_in c ws os ds rs at.m (part w (8 * at.m) at.left) (stops_of w at.m) at.d).taken t' p.taken
  pub used : Used at.m w' p.listed p.size
  pub stays : Stays at.m w w'
  pub listed : p.listed ≡ length (order_in c ws os ds rs at.m (part w (8 * at.m) at.left) (stops_of w at.m))

-- a table has too little room; how many pins are listed is told all the same
pub record Uncut (c : GraphCounts) (ws os ds rs : List ℕ) (at : Spot) (w h t w' h' t' : List ℕ) (e : Narrow) : Type 0 where
  pub narrow : (length h < at.handed + length (split_in c ws os ds rs at.m (part w (8 * at.m) at.left) (stops_of w at.m) at.d).handed) ⊎ (length t < at.taken + length (split_in c ws os ds rs at.m (part w (8 * at.m) at.left) (stops_of w at.m) at.d).taken)
  pub listed : e.listed ≡ length (order_in c ws os ds rs at.m (part w (8 * at.m) at.left) (stops_of w at.m))
  pub work_long : length w' ≡ length w
  pub handed_long : length h' ≡ length h
  pub taken_long : length t' ≡ length t

-- what a split leaves
abbrev pub CutOff : GraphCounts → List ℕ → List ℕ → List ℕ → List ℕ → Spot → List ℕ → List ℕ → List ℕ → List ℕ → List ℕ → List ℕ → Result Piece Narrow → Type 0
CutOff c ws os ds rs at w h t w' h' t' (Ok p) = Cut c ws os ds rs at w h t w' h' t' p
CutOff c ws os ds rs at w h t w' h' t' (Err e) = Uncut c ws os ds rs at w h t w' h' t' e

-- ---- the same of a lent graph
abbrev pub PreparedIn : GraphTables → ℕ → List ℕ → ℕ → List ℕ → ℕ → Type 0
PreparedIn g = Prepared g.ends.counts g.drivers.now g.ends.outputs.now g.ends.dffs.now g.ends.rams.now

abbrev pub WorkedOutIn : GraphTables → List ℕ → ℕ → ℕ → ℕ → List ℕ → List ℕ → ℕ → Type 0
WorkedOutIn g = WorkedOut g.ends.counts g.drivers.now g.ends.outputs.now g.ends.dffs.now g.ends.rams.now

abbrev pub CutOffIn : GraphTables → Spot → List ℕ → List ℕ → List ℕ → List ℕ → List ℕ → List ℕ → Result Piece Narrow → Type 0
CutOffIn g = CutOff g.ends.counts g.drivers.now g.ends.outputs.now g.ends.dffs.now g.ends.rams.now
