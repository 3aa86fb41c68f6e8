-- Document 01, "Numbers that bound it".
use Rattle.std.specs.Prelude.{Bool, ◌&&◌, ℕ, ◌+◌, ◌*◌}
use Rattle.laws.specs.Tests.{◌≤?◌}
use Rattle.rules.specs.declared.NetlistCounts.{NetlistCounts}
use Rattle.rules.specs.declared.GraphCounts.{GraphCounts}
use Rattle.rules.specs.declared.Rooms.{Rooms}

-- cells, netlist pins, nets; output literals, flip-flops, RAMs
abbrev pub max_rows : ℕ
max_rows = 1048576

abbrev pub max_graph_pins : ℕ
max_graph_pins = 16777215

abbrev pub max_fanouts : ℕ
max_fanouts = 33554430

-- how long an index list may be
abbrev pub max_list : ℕ
max_list = 16777215

abbrev pub max_level : ℕ
max_level = 16777215

abbrev pub max_splits : ℕ
max_splits = 64

-- one stage more than there are split levels
abbrev pub max_stages : ℕ
max_stages = 65

-- work words for building, and for staging and traversal
abbrev pub build_work : ℕ → ℕ → ℕ
build_work pins room = 8 * pins + 8 * room + 1024

abbrev pub stage_work : ℕ → ℕ → ℕ
stage_work pins endpoints = 12 * pins + 4 * endpoints + 64

abbrev pub netlist_within : NetlistCounts → Bool
netlist_within c = (1 ≤? c.cells) && (c.cells ≤? max_rows) && (c.pins ≤? max_rows) && (c.nets ≤? max_rows)

abbrev pub graph_within : GraphCounts → Bool
graph_within c = (c.pins ≤? max_graph_pins) && (c.outputs ≤? max_rows) && (c.dffs ≤? max_rows) && (c.rams ≤? max_rows)

-- a given room has the bound of what it holds
abbrev pub rooms_within : Rooms → Bool
rooms_within r =
    (r.pins ≤? max_graph_pins) && (r.outputs ≤? max_rows) && (r.dffs ≤? max_rows) && (r.rams ≤? max_rows) && (r.fanouts ≤? max_fanouts)
