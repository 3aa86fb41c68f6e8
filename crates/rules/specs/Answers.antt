-- What each call answers and leaves: its number, 0 for success, by the tests in document 01's order; its result tables; its answer. After any
-- call all work words are 0. A list of single words that is lent for a result has its length as its room.
use Rattle.std.specs.Prelude.{Some, Result, Ok, Err, Bool, true, ◌&&◌, List, [], ◌∷◌, map, ℕ, zero, suc, ◌+◌, ◌-◌, ◌*◌, length, get_or, if◌then◌else◌, ◌==◌}
use Rattle.laws.specs.Tests.{◌<?◌, ◌≤?◌, one, or_else, refuse}
use Rattle.laws.specs.Lists.{every, flat, upto}
use Rattle.rules.specs.declared.Tally.{Tally}
use Rattle.rules.specs.declared.NetlistCounts.{NetlistCounts}
use Rattle.rules.specs.declared.GraphCounts.{GraphCounts}
use Rattle.rules.specs.declared.Rooms.{Rooms}
use Rattle.rules.specs.declared.StageSize.{StageSize}
use Rattle.rules.specs.declared.StagesSize.{StagesSize}
use Rattle.rules.specs.declared.Refusal.{Refusal}
use Rattle.rules.specs.declared.Refusal.TheVariants.{Bounds, Lengths, Kinds, Latch, PinLists, Nets, Loop, ClockCell, ClockLength, Marker, Room, Graph as GraphRefused, Levels, NothingRead, Index}
use Rattle.rules.specs.Netlist.{Netlist}
use Rattle.rules.specs.Graph.{Graph}
use Rattle.rules.specs.Build.{graph_of, literals_of, fanouts, fanout_starts, tally, gate_count}
use Rattle.rules.specs.Stages.{inputs, inputs_of, traversal, split, stages, Stage, Row, subset}
use Rattle.rules.specs.Bounds.{max_graph_pins, max_fanouts, max_list, max_level, max_splits, max_stages, build_work, stage_work, netlist_within, graph_within, rooms_within}
use Rattle.rules.specs.Tables.{driver_words, record_words, ram_words, GraphWords, drivers_in, graph_in, row_words, all_handed, all_taken, held}
use Rattle.rules.specs.Refusals.{check_number, netlist_number, room_fits, drivers_fit, records_fit, rising, something_read, below, no_repeat, handed_first}
use Rattle.rules.specs.Work.{bit}

-- ---- the answers: document 01's number, as the refusal of that number, and the values of each case
abbrev pub number_of : Refusal → ℕ
number_of Bounds = 1
number_of Lengths = 2
number_of Kinds = 3
number_of Latch = 4
number_of PinLists = 5
number_of Nets = 6
number_of Loop = 7
number_of ClockCell = 8
number_of ClockLength = 9
number_of Marker = 10
number_of Room = 11
number_of GraphRefused = 12
number_of Levels = 13
number_of NothingRead = 14
number_of Index = 15

-- all refusals, in the order of their numbers
abbrev pub refusals : List Refusal
refusals =
    Bounds ∷ Lengths ∷ Kinds ∷ Latch ∷ PinLists ∷ Nets ∷ Loop ∷ ClockCell ∷ ClockLength ∷ Marker ∷ Room ∷ GraphRefused ∷ Levels ∷ NothingRead ∷ Index ∷ []

-- a call's value where its number is 0, else the refusal
abbrev pub answer_of : {T : Type 0} → ℕ → T → Result T Refusal
answer_of zero v = Ok v
answer_of (suc k) v = Err (get_or refusals k Index)

-- of a call that gives nothing besides its tables
abbrev pub done_of : ℕ → Result (Unit {0}) Refusal
done_of k = answer_of k tt

abbrev pub stage_size : Stage → StageSize
stage_size s = record { handed = length s.handed; taken = length s.taken }

abbrev pub stages_size : List Row → StagesSize
stages_size rows = record { stages = length rows; handed = length (all_handed rows); taken = length (all_taken rows) }

-- ---- building: the counts and tables of a netlist, the rooms, and how long the lent tables are
pub record BuildLengths : Type 0 where
  pub drivers : ℕ
  pub outputs : ℕ
  pub dffs : ℕ
  pub rams : ℕ
  pub literals : ℕ
  pub starts : ℕ
  pub fanouts : ℕ
  pub work : ℕ

-- 2 of a netlist: its tables have the lengths of its counts
abbrev pub netlist_long : NetlistCounts → Netlist → Bool
netlist_long c n =
    (length n.kinds == c.cells) && (length n.starts == c.cells + 1) && (length n.list == c.pins)
    && (length n.pins == 5 * c.pins) && (length n.nets == c.nets)

-- 2 of what building fills: three words a pin and a flip-flop record, 123 a RAM
abbrev pub rooms_long : NetlistCounts → Rooms → BuildLengths → Bool
rooms_long c r l =
    (l.drivers == 3 * (r.pins + 1)) && (l.outputs == r.outputs) && (l.dffs == 3 * r.dffs) && (l.rams == 123 * r.rams)
    && (l.literals == c.pins) && (l.starts == r.pins + 2) && (l.fanouts == r.fanouts) && (build_work c.pins r.pins ≤? l.work)

unfoldable pub build_number : NetlistCounts → Rooms → Netlist → BuildLengths → ℕ
build_number c r n l =
    or_else (refuse 1 (netlist_within c && rooms_within r))
    (or_else (refuse 2 (netlist_long c n && rooms_long c r l))
    (or_else (netlist_number n) (refuse 11 (room_fits (tally (graph_of n)) r))))

-- what the result tables hold
pub record BuildTables : Type 0 where
  pub drivers : List ℕ
  pub outputs : List ℕ
  pub dffs : List ℕ
  pub rams : List ℕ
  pub literals : List ℕ
  pub starts : List ℕ
  pub fanouts : List ℕ

abbrev pub build_tables : ℕ → Netlist → BuildLengths → BuildTables
build_tables k n l = record {
  drivers = held k (flat driver_words (graph_of n).drivers) l.drivers;
  outputs = held k (graph_of n).outputs l.outputs;
  dffs = held k (flat record_words (graph_of n).dffs) l.dffs;
  rams = held k (flat ram_words (graph_of n).rams) l.rams;
  literals = held k (literals_of n) l.literals;
  starts = held k (fanout_starts (graph_of n).drivers) l.starts;
  fanouts = held k (fanouts (graph_of n).drivers) l.fanouts;
}

abbrev pub build_answer : ℕ → Netlist → Result Tally Refusal
build_answer k n = answer_of k (tally (graph_of n))

-- ---- calls on a driver table alone: of 12 only what speaks of drivers applies
abbrev pub drivers_number : ℕ → List ℕ → Bool → Bool → ℕ
drivers_number pins ws counts lengths =
    or_else (refuse 1 ((pins ≤? max_graph_pins) && counts))
    (or_else (refuse 2 ((length ws == 3 * (pins + 1)) && lengths)) (refuse 12 (drivers_fit ws pins)))

-- the graph of a driver table
abbrev pub drivers_graph : ℕ → List ℕ → Graph
drivers_graph pins ws = record { drivers = drivers_in ws pins; outputs = []; dffs = []; rams = [] }

-- fanouts: starts of pins + 2 words, and a room for the lists
unfoldable pub fanouts_number : ℕ → List ℕ → ℕ → ℕ → ℕ
fanouts_number pins ws starts room =
    or_else (drivers_number pins ws (room ≤? max_fanouts) (starts == pins + 2)) (refuse 11 (2 * gate_count (drivers_in ws pins) ≤? room))

-- evaluation: a source's bit is 0 where its word is 0, else 1; the bit of each pin from 0
unfoldable pub evaluate_number : ℕ → List ℕ → List ℕ → ℕ → ℕ
evaluate_number pins ws sources bits = drivers_number pins ws true ((length sources == pins + 1) && (bits == pins + 1))

abbrev pub source_of : List ℕ → ℕ → Bool
source_of sources u = 0 <? get_or sources u 0

abbrev pub pin_bits : ℕ → List ℕ → List ℕ → List ℕ
pin_bits pins ws sources = map (λ u. one (bit (drivers_graph pins ws) (source_of sources) u)) (upto (pins + 1))

-- traversal: indexes run from 0 to the pin count, and the handed-on pins are a set
abbrev pub pin_set : ℕ → List ℕ → Bool
pin_set pins handed = below (pins + 1) handed && no_repeat handed

unfoldable pub traverse_number : ℕ → List ℕ → Bool → List ℕ → List ℕ → ℕ → ℕ → ℕ
traverse_number pins ws given roots handed room work =
    or_else (drivers_number pins ws ((length roots ≤? max_list) && (length handed ≤? max_list) && (room ≤? max_list)) (stage_work pins 0 ≤? work))
    (or_else (refuse 15 ((if given then below (pins + 1) roots else true) && pin_set pins handed))
    (refuse 11 (length (traversal (drivers_graph pins ws) given roots handed) ≤? room)))

-- ---- calls on a whole graph
abbrev pub graph_long : GraphCounts → GraphWords → Bool
graph_long c t =
    (length t.drivers == 3 * (c.pins + 1)) && (length t.outputs == c.outputs) && (length t.dffs == 3 * c.dffs)
    && (length t.rams == 123 * c.rams)

-- 12 whole
abbrev pub graph_fits : GraphCounts → GraphWords → Bool
graph_fits c t = drivers_fit t.drivers c.pins && records_fit (graph_in c t)

abbrev pub endpoints : GraphCounts → ℕ
endpoints c = c.outputs + c.dffs + c.rams

abbrev pub graph_number : GraphCounts → GraphWords → ℕ → Bool → Bool → ℕ
graph_number c t work counts lengths =
    or_else (refuse 1 (graph_within c && counts))
    (or_else (refuse 2 (graph_long c t && (stage_work c.pins (endpoints c) ≤? work) && lengths)) (refuse 12 (graph_fits c t)))

-- the graph check
unfoldable pub check_graph_number : GraphCounts → GraphWords → ℕ → ℕ
check_graph_number c t work = graph_number c t work true true

-- what is handed on and taken fits its room
abbrev pub stage_fits : Stage → ℕ → ℕ → Bool
stage_fits s handed taken = (length s.handed ≤? handed) && (length s.taken ≤? taken)

-- a split asked alone: the chosen endpoints and the handed-on pins are sets; the level is the difference itself
unfoldable pub split_number : GraphCounts → GraphWords → List ℕ → List ℕ → ℕ → ℕ → ℕ → ℕ → ℕ
split_number c t chosen before level handed taken work =
    or_else (graph_number c t work ((length chosen ≤? max_list) && (length before ≤? max_list) && (level ≤? max_level) && (handed ≤? max_list) && (taken ≤? max_list)) true)
    (or_else (refuse 15 (below (endpoints c) chosen && no_repeat chosen && pin_set c.pins before))
    (or_else (refuse 14 (something_read (graph_in c t) chosen))
    (refuse 11 (stage_fits (split (graph_in c t) chosen before (Some level)) handed taken))))

-- the stages: four words a row
abbrev pub stages_fit : List Row → ℕ → ℕ → ℕ → Bool
stages_fit s rows handed taken = (length s ≤? rows) && (length (all_handed s) ≤? handed) && (length (all_taken s) ≤? taken)

unfoldable pub stages_number : GraphCounts → GraphWords → List ℕ → ℕ → ℕ → ℕ → ℕ → ℕ → ℕ
stages_number c t splits rows rows_long handed taken work =
    or_else
    (graph_number c t work
    ((length splits ≤? max_splits) && every (λ b. b ≤? max_level) splits && (rows ≤? max_stages) && (handed ≤? max_list) && (taken ≤? max_list))
    (rows_long == 4 * rows))
    (or_else (refuse 13 (rising splits))
    (or_else (refuse 14 (something_read (graph_in c t) (upto (endpoints c))))
    (refuse 11 (stages_fit (stages (graph_in c t) splits) rows handed taken))))

abbrev pub stage_rows : List Row → List ℕ
stage_rows s = flat row_words s

-- ---- calls that read no driver
-- the whole graph as one stage
unfoldable pub full_number : GraphCounts → ℕ → ℕ
full_number c taken = or_else (refuse 1 (graph_within c && (taken ≤? max_list))) (refuse 11 (endpoints c ≤? taken))

-- a subset of a stage by a list of places
unfoldable pub subset_number : Stage → List ℕ → ℕ → ℕ → ℕ
subset_number s is handed taken =
    or_else
    (refuse 1 ((length s.handed ≤? max_list) && (length s.taken ≤? max_list) && (length is ≤? max_list) && (handed ≤? max_list) && (taken ≤? max_list)))
    (or_else (refuse 15 (below (length s.handed + length s.taken) is && handed_first (length s.handed) is))
    (refuse 11 (stage_fits (subset s is) handed taken)))

-- an endpoint of a graph by its number
unfoldable pub endpoint_number : GraphCounts → ℕ → ℕ
endpoint_number c e = or_else (refuse 1 (graph_within c)) (refuse 15 (e <? endpoints c))

-- an endpoint's input number i: only the tables of endpoints are read
abbrev pub ends_long : GraphCounts → GraphWords → Bool
ends_long c t = (length t.outputs == c.outputs) && (length t.dffs == 3 * c.dffs) && (length t.rams == 123 * c.rams)

unfoldable pub input_number : GraphCounts → GraphWords → ℕ → ℕ → ℕ
input_number c t e i =
    or_else (refuse 1 (graph_within c))
    (or_else (refuse 2 (ends_long c t))
    (refuse 15 ((e <? endpoints c) && (i <? length (inputs (graph_in c t) e)))))

-- the same of a stage's endpoint by its place: a handed-on pin reads itself; what is not there reads nothing
abbrev pub end_inputs : GraphCounts → GraphWords → ℕ → List ℕ
end_inputs c t e = if e <? endpoints c then inputs (graph_in c t) e else []

abbrev pub place_inputs : GraphCounts → GraphWords → Stage → ℕ → List ℕ
place_inputs c t s k =
    if k <? length s.handed then inputs_of (2 * get_or s.handed k 0 ∷ [])
    else (if k - length s.handed <? length s.taken then end_inputs c t (get_or s.taken (k - length s.handed) 0) else [])

unfoldable pub stage_input_number : GraphCounts → GraphWords → Stage → ℕ → ℕ → ℕ
stage_input_number c t s k i =
    or_else (refuse 1 (graph_within c && (length s.handed ≤? max_list) && (length s.taken ≤? max_list)))
    (or_else (refuse 2 (ends_long c t)) (refuse 15 (i <? length (place_inputs c t s k))))

-- ---- calls on a netlist that build nothing: counts, tables, and 8 work words a pin with 1,024 more
abbrev pub netlist_asked : NetlistCounts → Netlist → ℕ → ℕ → ℕ
netlist_asked c n work number =
    or_else (refuse 1 (netlist_within c)) (or_else (refuse 2 (netlist_long c n && (8 * c.pins + 1024 ≤? work))) number)

-- tests 1 to 9: the tables, loops, then the clock walks in step 1 order
unfoldable pub check_netlist_number : NetlistCounts → Netlist → ℕ → ℕ
check_netlist_number c n work = netlist_asked c n work (check_number n)

-- tests 1 to 10
unfoldable pub check_all_number : NetlistCounts → Netlist → ℕ → ℕ
check_all_number c n work = netlist_asked c n work (netlist_number n)
