-- Demand 2: the graph that is built means what the netlist means.
--
-- What the netlist means is said in `rules`, Cells, of the netlist alone: `Env` is what comes from outside (the bit of each input port, of
-- each port's clock flag for either edge, of each flip-flop, of each RAM's read data); `CellRules n env v` says that the bits v of the
-- netlist's pins obey every net and every cell; `Logic n p` says that pin p has a logic bit, `Carried n p odd` that it has none, being
-- reached by a CKLNQD output over nets, BUFs and INVs (odd: over an odd number of INVs); `ClockActive n env v c m a` says that the clock
-- pin of cell c with name m has activity a, and an absent pin activity 0; `next_bit`, `enable_bit` and `write_bit` are the record rules.
-- What is built is said in `rules`, Build: `graph_of n`, and `literals_of n`, a literal for each netlist pin. `count x l` is how often x
-- stands in the list l, so that 0 < count x l says that it is in it.
use Rattle.std.specs.Prelude.{Option, Some, ◌≡◌, ◌⊎◌, Bool, true, false, List, [], ◌∷◌, map, ℕ, ◌+◌, ◌≤◌, ◌<◌, length, get_or, take}
use Rattle.laws.specs.Lists.{count, upto}
use Rattle.rules.specs.declared.Edge.{Edge}
use Rattle.rules.specs.declared.Driver.TheVariants.{Port, Flag, Dff, Ram}
use Rattle.rules.specs.declared.Record.{Record}
use Rattle.rules.specs.declared.NetlistCounts.{NetlistCounts}
use Rattle.rules.specs.declared.Rooms.{Rooms}
use Rattle.rules.specs.Netlist.{Netlist, cells, size, cell_of, is_out, net_of, net_word, kind_of, dff, ram, #CLK, #R_ADDR, #R_CLK, #W_ADDR, #W_CLK, #W_DATA}
use Rattle.rules.specs.Cells.{Env, Carried, Logic, CellRules, ClockActive, bit_at, next_bit, enable_bit, write_bit}
use Rattle.rules.specs.Graph.{opposite_if, marker, Graph, RamRow, driver_of, pin_count, dff_at, ram_at}
use Rattle.rules.specs.Build.{step2, step3, graph_of, literals_of}
use Rattle.rules.specs.Stages.{endpoint_count, reads, ram_reads, stages}
use Rattle.rules.specs.Work.{lit_bit}
use Rattle.rules.specs.Bounds.{max_graph_pins, stage_work}
use Rattle.rules.specs.Tables.{GraphWords, graph_in}
use Rattle.rules.specs.Answers.{BuildLengths, build_number, build_tables, endpoints, check_graph_number}
use Rattle.rules.specs.Tables.{counts_of, words_of}
use Rattle.rules.specs.Refusals.{rising, something_read, Accepted}
use Rattle.demands.specs.Demand3.{LegalCut}

-- ---- the graph's sources have the bits that come from outside; of a RAM's pins the record says which bit of the read data each is
pub record Sources (env : Env) (g : Graph) (src : ℕ → Bool) : Type 0 where
  pub ports : (u q : ℕ) → driver_of g u ≡ Port q → src u ≡ env.port_bit q
  pub flags : (u q : ℕ) (e : Edge) → driver_of g u ≡ Flag q e → src u ≡ env.flag_bit q e
  pub dffs : (u c : ℕ) → driver_of g u ≡ Dff c → src u ≡ env.stored c
  pub rams : (k i u c : ℕ) → k < length g.rams → get_or (ram_at g k).read_data i 0 ≡ u → driver_of g u ≡ Ram c → src u ≡ env.read_bit c i

-- the literal of a netlist pin, and its bit: with the sources' bits, in the whole graph
abbrev pub lit_at : Netlist → ℕ → ℕ
lit_at n p = get_or (literals_of n) p 0

abbrev pub pin_bit : Netlist → (ℕ → Bool) → ℕ → Bool
pin_bit n src p = lit_bit (graph_of n) src (lit_at n p)

-- the cells of the flip-flop and RAM records, in the records' order
abbrev pub dff_cells : Netlist → List ℕ
dff_cells n = (step2 n).flops

abbrev pub ram_cells : Netlist → List ℕ
ram_cells n = (step3 n).rams

-- an output port on a driven net
pub record OutputPort (n : Netlist) (p : ℕ) : Type 0 where
  pub inside : p < size n
  pub top : cell_of n p ≡ 0
  pub inward : is_out n p ≡ false
  pub driver : ℕ
  pub driven : net_word n (net_of n p) ≡ 2 + driver

-- ---- a record's literals have the bits of the record rules
pub record DffRight (n : Netlist) (env : Env) (v : ℕ → Bool) (lit : ℕ → Bool) (c : ℕ) (r : Record) : Type 0 where
  pub next_right : lit r.next ≡ next_bit n v c
  pub activity : Bool
  pub clock_active : ClockActive n env v c #CLK activity
  pub enable_right : lit r.enable ≡ enable_bit n v c activity

pub record RamRight (n : Netlist) (env : Env) (v : ℕ → Bool) (lit : ℕ → Bool) (c : ℕ) (r : RamRow) : Type 0 where
  pub read_activity : Bool
  pub read_clock : ClockActive n env v c #R_CLK read_activity
  pub read_enable_right : lit r.read_enable ≡ read_activity
  pub write_activity : Bool
  pub write_clock : ClockActive n env v c #W_CLK write_activity
  pub write_enable_right : (i : ℕ) → i < 32 → lit (get_or r.write_enable i 0) ≡ write_bit n v c write_activity i
  pub read_address_right : (i : ℕ) → i < 13 → lit (get_or r.read_address i 0) ≡ bit_at n v c #R_ADDR i
  pub write_address_right : (i : ℕ) → i < 13 → lit (get_or r.write_address i 0) ≡ bit_at n v c #W_ADDR i
  pub write_data_right : (i : ℕ) → i < 32 → lit (get_or r.write_data i 0) ≡ bit_at n v c #W_DATA i

-- ---- 1. the bits: an assignment that obeys the cells has at each pin with a logic bit the bit of its literal, and the graph's own bits obey
pub record SameBits (n : Netlist) (env : Env) (src : ℕ → Bool) : Type 0 where
  pub same : (v : ℕ → Bool) → CellRules n env v → (p : ℕ) → p < size n → Logic n p → v p ≡ pin_bit n src p
  pub own : CellRules n env (pin_bit n src)

-- ---- 2. the records: each flip-flop and each RAM has one, with the right bits; nothing else has
pub record SameRecords (n : Netlist) (env : Env) (src : ℕ → Bool) : Type 0 where
  pub dff_rows : length (graph_of n).dffs ≡ length (dff_cells n)
  pub dff_one : (c : ℕ) → c < cells n → kind_of n c ≡ dff → count c (dff_cells n) ≡ 1
  pub dff_only : (c : ℕ) → 0 < count c (dff_cells n) → (c < cells n) × (kind_of n c ≡ dff)
  pub dff_driver : (k : ℕ) → k < length (dff_cells n) → driver_of (graph_of n) (dff_at (graph_of n) k).pin ≡ Dff (get_or (dff_cells n) k 0)
  pub dff_right : (v : ℕ → Bool) → CellRules n env v → (k : ℕ) → k < length (dff_cells n)
      → DffRight n env v (lit_bit (graph_of n) src) (get_or (dff_cells n) k 0) (dff_at (graph_of n) k)
  pub ram_rows : length (graph_of n).rams ≡ length (ram_cells n)
  pub ram_one : (c : ℕ) → c < cells n → kind_of n c ≡ ram → count c (ram_cells n) ≡ 1
  pub ram_only : (c : ℕ) → 0 < count c (ram_cells n) → (c < cells n) × (kind_of n c ≡ ram)
  pub ram_driver : (k i : ℕ) → k < length (ram_cells n) → 0 < get_or (ram_at (graph_of n) k).read_data i 0
      → driver_of (graph_of n) (get_or (ram_at (graph_of n) k).read_data i 0) ≡ Ram (get_or (ram_cells n) k 0)
  pub ram_right : (v : ℕ → Bool) → CellRules n env v → (k : ℕ) → k < length (ram_cells n)
      → RamRight n env v (lit_bit (graph_of n) src) (get_or (ram_cells n) k 0) (ram_at (graph_of n) k)

-- ---- 3. the pins without a logic bit are the carried ones, and their literals are the markers; the outputs are the output ports' literals
pub record SameMarks (n : Netlist) : Type 0 where
  pub either : (p : ℕ) → p < size n → Logic n p ⊎ ((odd : Bool) × Carried n p odd)
  pub marked : (p : ℕ) (odd : Bool) → p < size n → Carried n p odd → lit_at n p ≡ opposite_if odd marker
  pub unmarked : pin_count (graph_of n) ≤ max_graph_pins → (p : ℕ) → p < size n → Logic n p → lit_at n p < 4294967294
  pub outputs_all : (p : ℕ) → OutputPort n p → 0 < count (lit_at n p) (graph_of n).outputs
  pub outputs_only : (l : ℕ) → 0 < count l (graph_of n).outputs → (p : ℕ) × OutputPort n p × (lit_at n p ≡ l)
  pub outputs_once : (l : ℕ) → count l (graph_of n).outputs ≤ 1

-- ---- demand 2, for each netlist that none of refusals 3 to 10 turns away and all that may come from outside
pub record SameMeaning (n : Netlist) (env : Env) : Type 0 where
  -- the sources can be given such bits
  pub given : (src : ℕ → Bool) × Sources env (graph_of n) src
  pub bits : (src : ℕ → Bool) → Sources env (graph_of n) src → SameBits n env src
  pub records : (src : ℕ → Bool) → Sources env (graph_of n) src → SameRecords n env src
  pub marks : SameMarks n

abbrev pub Demand2 : Type 0
Demand2 = (n : Netlist) → Accepted n → (env : Env) → SameMeaning n env

-- ---- of the call that builds: where it is not refused, the tables that it leaves say the graph and the literals, and the graph check accepts them
abbrev pub tables_left : Netlist → BuildLengths → GraphWords
tables_left n l = record {
  drivers = (build_tables 0 n l).drivers;
  outputs = take (length (graph_of n).outputs) (build_tables 0 n l).outputs;
  dffs = (build_tables 0 n l).dffs;
  rams = (build_tables 0 n l).rams;
}

pub record BuildMeaning (n : Netlist) (l : BuildLengths) : Type 0 where
  pub meaning : (env : Env) → SameMeaning n env
  pub graph_left : graph_in (counts_of (graph_of n)) (tables_left n l) ≡ graph_of n
  pub literals_left : (p : ℕ) → get_or (build_tables 0 n l).literals p 0 ≡ lit_at n p
  pub checked : (work : ℕ) → stage_work (pin_count (graph_of n)) (endpoints (counts_of (graph_of n))) ≤ work
      → check_graph_number (counts_of (graph_of n)) (words_of (graph_of n)) work ≡ 0

abbrev pub OfBuild : Type 0
OfBuild = (c : NetlistCounts) (r : Rooms) (n : Netlist) (l : BuildLengths) → build_number c r n l ≡ 0 → BuildMeaning n l

-- ---- demands 2 and 3 together: the stages of what is built, worked in order, answer with the netlist's own bits
-- the answers of an endpoint: the bits of the literals that it reads, in order
abbrev pub values_of : Graph → (ℕ → Bool) → ℕ → List (Option Bool)
values_of g src e = map (λ l. Some (lit_bit g src l)) (reads g e)

pub record StagedMeaning (n : Netlist) (env : Env) (v src : ℕ → Bool) (splits : List ℕ) : Type 0 where
  -- each endpoint is in one stage, and worked there its literals get the bits that `values_of` says
  pub legal : LegalCut (graph_of n) splits (stages (graph_of n) splits)
  -- an output: the bit of each output port that has its literal
  pub outputs : (e p : ℕ) → e < length (graph_of n).outputs → OutputPort n p → lit_at n p ≡ get_or (graph_of n).outputs e 0
      → values_of (graph_of n) src e ≡ Some (v p) ∷ []
  -- a flip-flop: its enable and its next bit
  pub dffs : (k : ℕ) (a : Bool) → k < length (dff_cells n) → ClockActive n env v (get_or (dff_cells n) k 0) #CLK a
      → values_of (graph_of n) src (length (graph_of n).outputs + k) ≡ Some (enable_bit n v (get_or (dff_cells n) k 0) a) ∷ Some (next_bit n v (get_or (dff_cells n) k 0)) ∷ []
  -- a RAM: the bits of its row's literals, and these are right
  pub rams : (k : ℕ) → k < length (ram_cells n)
      → (values_of (graph_of n) src (length (graph_of n).outputs + length (graph_of n).dffs + k) ≡ map (λ l. Some (lit_bit (graph_of n) src l)) (ram_reads (ram_at (graph_of n) k)))
      × RamRight n env v (lit_bit (graph_of n) src) (get_or (ram_cells n) k 0) (ram_at (graph_of n) k)

abbrev pub Demands23 : Type 0
Demands23 = (n : Netlist) → Accepted n → (splits : List ℕ) → rising splits ≡ true → something_read (graph_of n) (upto (endpoint_count (graph_of n))) ≡ true
    → (env : Env) (v src : ℕ → Bool) → CellRules n env v → Sources env (graph_of n) src → StagedMeaning n env v src splits
