-- Document 01, "Graph and numbering", its second half: the visits, the clock walks, steps 1 to 3, outputs, records, fanouts and tallies.
use Rattle.std.specs.Prelude.{Bool, true, false, ◌||◌, List, [], ◌∷◌, ◌++◌, map, ℕ, zero, suc, ◌+◌, ◌-◌, ◌*◌, length, if◌then◌else◌, ◌==◌}
use Rattle.laws.specs.Tests.{one}
use Rattle.laws.specs.Lists.{keep, flat, over, upto, first_or, put}
use Rattle.laws.specs.Sets.{insert}
use Rattle.laws.specs.Search.{Event, enter, leave, explore}
use Rattle.rules.specs.declared.Edge.{Edge}
use Rattle.rules.specs.declared.Edge.TheVariants.{Rising, Falling}
use Rattle.rules.specs.declared.Driver.{Driver}
use Rattle.rules.specs.declared.Driver.TheVariants.{And, Port, Flag, Dff, Ram, Constant}
use Rattle.rules.specs.declared.Record.{Record}
use Rattle.rules.specs.declared.Tally.{Tally}
use Rattle.rules.specs.Netlist.{
  Netlist,
  cells,
  size,
  cell_of,
  name_of,
  bit_of,
  is_out,
  net_of,
  net_word,
  pins_of,
  kind_of,
  Kind,
  top,
  and2,
  inv,
  buf,
  dff,
  clock_gate,
  ram,
  unfit,
  named,
  named_bit,
  pin_named,
  #A,
  #B,
  #D,
  #CLK,
  #S,
  #R,
  #CP,
  #E,
  #R_ADDR,
  #R_CLK,
  #W_ADDR,
  #W_CLK,
  #W_DATA,
  #W_EN,
}
use Rattle.rules.specs.Cells.{other_edge}
use Rattle.rules.specs.Graph.{opposite, opposite_if, marker, driver_at, operands, RamRow, Graph, Made, old_or_new, and_of, or_not}

-- ---- what a pin is, as the visits of step 2 see it
pub data Role : Type 0 where
  -- an in pin on a constant net, an output port too
  tied : Bool → Role
  -- an in pin of a cell, or an output port, on a net that pin q drives
  wire out_port : ℕ → Role
  in_port : Role
  -- the output of a cell, with the in pins that the visits go to
  and_out : Bool → Bool → Bool → ℕ → ℕ → Role
  inv_out buf_out : ℕ → Role
  gate_out : ℕ → ℕ → Role
  -- with the cell, and the bit of read data
  dff_out : ℕ → Role
  ram_out : ℕ → ℕ → Role
  -- no pin of an accepted netlist
  nothing : Role

abbrev pub in_role : Bool → ℕ → Role
in_role is_top zero = tied false
in_role is_top (suc zero) = tied true
in_role is_top (suc (suc q)) = if is_top then out_port q else wire q

abbrev pub out_role : Netlist → ℕ → ℕ → Kind → Role
out_role n c p top = in_port
out_role n c p (and2 x y z) = and_out x y z (pin_named n c #A) (pin_named n c #B)
out_role n c p inv = inv_out (pin_named n c #A)
out_role n c p buf = buf_out (pin_named n c #A)
out_role n c p dff = dff_out c
out_role n c p clock_gate = gate_out (pin_named n c #CP) (pin_named n c #E)
out_role n c p ram = ram_out c (bit_of n p)
out_role n c p unfit = nothing

abbrev pub role : Netlist → ℕ → Role
role n p =
    if is_out n p
    then out_role n (cell_of n p) p (kind_of n (cell_of n p))
    else in_role (cell_of n p == 0) (net_word n (net_of n p))

-- the set and reset pins of a flip-flop, in list order
abbrev pub set_reset : Netlist → ℕ → List ℕ
set_reset n c = keep (λ p. (name_of n p == #S) || (name_of n p == #R)) (pins_of n c)

-- step 2, where a visit goes: AND2 to A then B, CKLNQD to CP then E, a flip-flop to S and R in list order
abbrev pub visits_of : Netlist → Role → List ℕ
visits_of n (tied b) = []
visits_of n (wire q) = q ∷ []
visits_of n (out_port q) = q ∷ []
visits_of n in_port = []
visits_of n (and_out x y z a b) = a ∷ b ∷ []
visits_of n (inv_out a) = a ∷ []
visits_of n (buf_out a) = a ∷ []
visits_of n (gate_out cp e) = cp ∷ e ∷ []
visits_of n (dff_out c) = set_reset n c
visits_of n (ram_out c b) = []
visits_of n nothing = []

abbrev pub next : Netlist → ℕ → List ℕ
next n p = visits_of n (role n p)

-- step 2, the depth-first visits of all netlist pins upward: when each is entered and left
abbrev pub events : Netlist → List Event
events n = over (explore (next n) (size n)) [] (upto (size n))

-- ---- clock walks
-- where a walk from a clock pin ends, and the E pins that it passes
pub data Walk : Type 0 where
  -- a constant net
  still : Walk
  -- an input port, asked for an edge
  root : ℕ → Edge → Walk
  -- through a CKLNQD with this E pin
  gated : Walk → ℕ → Walk
  -- refusal 8: a cell of another kind; refusal 9: a 65th cell
  strange far : Walk

-- the driver is asked: an input port ends the walk, else the driver's cell asks an input pin again
abbrev pub ask_driver : (Edge → ℕ → Walk) → Edge → ℕ → Role → Walk
ask_driver go e q (tied b) = strange
ask_driver go e q (wire x) = strange
ask_driver go e q (out_port x) = strange
ask_driver go e q in_port = root q e
ask_driver go e q (and_out x y z a b) = strange
ask_driver go e q (inv_out a) = go (other_edge e) a
ask_driver go e q (buf_out a) = go e a
ask_driver go e q (gate_out cp en) = gated (go e cp) en
ask_driver go e q (dff_out c) = strange
ask_driver go e q (ram_out c b) = strange
ask_driver go e q nothing = strange

-- the driver is asked when 64 cells have been met: a port will do, any cell is too many
abbrev pub ask_last : Edge → ℕ → Role → Walk
ask_last e q (tied b) = far
ask_last e q (wire x) = far
ask_last e q (out_port x) = far
ask_last e q in_port = root q e
ask_last e q (and_out x y z a b) = far
ask_last e q (inv_out a) = far
ask_last e q (buf_out a) = far
ask_last e q (gate_out cp en) = far
ask_last e q (dff_out c) = far
ask_last e q (ram_out c b) = far
ask_last e q nothing = far

-- an input pin is asked: a constant net ends the walk, else it asks its driver
abbrev pub ask_pin : (ℕ → Walk) → Role → Walk
ask_pin ask (tied b) = still
ask_pin ask (wire q) = ask q
ask_pin ask (out_port q) = strange
ask_pin ask in_port = strange
ask_pin ask (and_out x y z a b) = strange
ask_pin ask (inv_out a) = strange
ask_pin ask (buf_out a) = strange
ask_pin ask (gate_out cp en) = strange
ask_pin ask (dff_out c) = strange
ask_pin ask (ram_out c b) = strange
ask_pin ask nothing = strange

-- with so many cells left, for an edge, from a pin
abbrev pub walk_by : Netlist → ℕ → Edge → ℕ → Walk
walk_by n zero e p = ask_pin (λ q. ask_last e q (role n q)) (role n p)
walk_by n (suc left) e p = ask_pin (λ q. ask_driver (walk_by n left) e q (role n q)) (role n p)

abbrev pub walk : Netlist → ℕ → Walk
walk n p = walk_by n 64 Rising p

-- the clock pins of a cell in list order, and of the netlist, cells upward
abbrev pub is_clock : Kind → ℕ → Bool
is_clock top m = false
is_clock (and2 x y z) m = false
is_clock inv m = false
is_clock buf m = false
is_clock dff m = m == #CLK
is_clock clock_gate m = false
is_clock ram m = (m == #R_CLK) || (m == #W_CLK)
is_clock unfit m = false

abbrev pub clocks_of : Netlist → ℕ → List ℕ
clocks_of n c = keep (λ p. is_clock (kind_of n c) (name_of n p)) (pins_of n c)

abbrev pub clocks : Netlist → List ℕ
clocks n = flat (clocks_of n) (upto (cells n))

-- ---- step 1: each new (port, edge) that a walk ends at makes a pin
abbrev pub is_flag : ℕ → Edge → Driver → Bool
is_flag q e (And x y) = false
is_flag q e (Port p) = false
is_flag q Rising (Flag p Rising) = q == p
is_flag q Rising (Flag p Falling) = false
is_flag q Falling (Flag p Rising) = false
is_flag q Falling (Flag p Falling) = q == p
is_flag q e (Dff c) = false
is_flag q e (Ram c) = false
is_flag q e Constant = false

abbrev pub flag_for : List Driver → ℕ → Edge → Made
flag_for ds q e = old_or_new (is_flag q e) (Flag q e) ds

-- here a CKLNQD is a buffer
abbrev pub flag_of : List Driver → Walk → List Driver
flag_of ds still = ds
flag_of ds (root q e) = (flag_for ds q e).drivers
flag_of ds (gated w e) = flag_of ds w
flag_of ds strange = ds
flag_of ds far = ds

-- pin 0 is constant 0
abbrev pub step1 : Netlist → List Driver
step1 n = over (λ ds p. flag_of ds (walk n p)) (Constant ∷ []) (clocks n)

-- ---- step 2: what is made on the visits
pub record Build : Type 0 where
  -- by graph pin
  pub drivers : List Driver
  -- by netlist pin, its literal
  pub lits : ℕ → ℕ
  -- the output literals
  pub outs : List ℕ
  -- flip-flop cells in first-made order, and each one's pin
  pub flops : List ℕ
  pub flop_pin : ℕ → ℕ
  -- RAM cells in first-made order, and by cell and bit the read-data pin
  pub rams : List ℕ
  pub read_pin : ℕ → ℕ → ℕ

abbrev pub with_lit : Build → ℕ → List Driver → ℕ → Build
with_lit s p ds l =
    record { drivers = ds; lits = put s.lits p l; outs = s.outs; flops = s.flops; flop_pin = s.flop_pin; rams = s.rams; read_pin = s.read_pin }

-- a flip-flop output makes its own pin first
abbrev pub entering : Build → Role → Build
entering s (tied b) = s
entering s (wire q) = s
entering s (out_port q) = s
entering s in_port = s
entering s (and_out x y z a b) = s
entering s (inv_out a) = s
entering s (buf_out a) = s
entering s (gate_out cp e) = s
entering s (dff_out c) =
    record {
      drivers = s.drivers ++ (Dff c ∷ []);
      lits = s.lits;
      outs = s.outs;
      flops = insert s.flops c;
      flop_pin = put s.flop_pin c (length s.drivers);
      rams = s.rams;
      read_pin = s.read_pin;
    }
entering s (ram_out c b) = s
entering s nothing = s

-- everything else is made once what it visits is there; an output port on a driven net adds its literal once
abbrev pub leaving : Netlist → Build → ℕ → Role → Build
leaving n s p (tied b) = with_lit s p s.drivers (one b)
leaving n s p (wire q) = with_lit s p s.drivers (s.lits q)
leaving n s p (out_port q) =
    record {
      drivers = s.drivers;
      lits = put s.lits p (s.lits q);
      outs = insert s.outs (s.lits q);
      flops = s.flops;
      flop_pin = s.flop_pin;
      rams = s.rams;
      read_pin = s.read_pin;
    }
leaving n s p in_port = with_lit s p (s.drivers ++ (Port p ∷ [])) (2 * length s.drivers)
leaving n s p (and_out x y z a b) =
    let m : Made = and_of s.drivers (opposite_if x (s.lits a)) (opposite_if y (s.lits b)) in
    with_lit s p m.drivers (opposite_if z m.lit)
leaving n s p (inv_out a) = with_lit s p s.drivers (opposite (s.lits a))
leaving n s p (buf_out a) = with_lit s p s.drivers (s.lits a)
leaving n s p (gate_out cp e) = with_lit s p s.drivers marker
leaving n s p (dff_out c) =
    let m : Made = or_not s.drivers (2 * s.flop_pin c) (first_or 1 s.lits (named n c #S)) in
    let k : Made = and_of m.drivers m.lit (first_or 1 s.lits (named n c #R)) in
    with_lit s p k.drivers k.lit
leaving n s p (ram_out c b) =
    record {
      drivers = s.drivers ++ (Ram c ∷ []);
      lits = put s.lits p (2 * length s.drivers);
      outs = s.outs;
      flops = s.flops;
      flop_pin = s.flop_pin;
      rams = insert s.rams c;
      read_pin = put s.read_pin c (put (s.read_pin c) b (length s.drivers));
    }
leaving n s p nothing = with_lit s p s.drivers 0

abbrev pub on_event : {A : Type 0} → (ℕ → A) → (ℕ → A) → Event → A
on_event entered left (enter p) = entered p
on_event entered left (leave p) = left p

abbrev pub act : Netlist → Build → Event → Build
act n s e = on_event (λ p. entering s (role n p)) (λ p. leaving n s p (role n p)) e

abbrev pub start2 : List Driver → Build
start2 ds = record { drivers = ds; lits = λ p. 0; outs = []; flops = []; flop_pin = λ c. 0; rams = []; read_pin = λ c b. 0 }

unfoldable pub step2 : Netlist → Build
step2 n = over (act n) (start2 (step1 n)) (events n)

-- ---- step 3: records
-- by clock pin the literal of its activity, by cell the literals of next and enable, by cell and bit those of the write enables
pub record Ends : Type 0 where
  pub drivers : List Driver
  pub active : ℕ → ℕ
  pub nexts : ℕ → ℕ
  pub enables : ℕ → ℕ
  pub writes : ℕ → ℕ → ℕ
  pub rams : List ℕ

-- a clock is traced again; here a CKLNQD makes an AND of activity and E
abbrev pub trace : List Driver → (ℕ → ℕ) → Walk → Made
trace ds lits still = record { drivers = ds; lit = 0 }
trace ds lits (root q e) = flag_for ds q e
trace ds lits (gated w e) = and_of (trace ds lits w).drivers (trace ds lits w).lit (lits e)
trace ds lits strange = record { drivers = ds; lit = 0 }
trace ds lits far = record { drivers = ds; lit = 0 }

abbrev pub trace_clock : Netlist → (ℕ → ℕ) → Ends → ℕ → Ends
trace_clock n lits s p =
    let m : Made = trace s.drivers lits (walk n p) in
    record { drivers = m.drivers; active = put s.active p m.lit; nexts = s.nexts; enables = s.enables; writes = s.writes; rams = s.rams }

-- a flip-flop: next with S, enable with S, then next with R, enable with R
abbrev pub flop_ends : Netlist → (ℕ → ℕ) → Ends → ℕ → Ends
flop_ends n lits s c =
    let d : ℕ = first_or 0 lits (named n c #D) in
    let a : ℕ = first_or 0 s.active (named n c #CLK) in
    let sl : ℕ = first_or 1 lits (named n c #S) in
    let rl : ℕ = first_or 1 lits (named n c #R) in
    let n1 : Made = or_not s.drivers d sl in let e1 : Made = or_not n1.drivers a sl in
    let n2 : Made = and_of e1.drivers n1.lit rl in let e2 : Made = or_not n2.drivers e1.lit rl in
    record { drivers = e2.drivers; active = s.active; nexts = put s.nexts c n2.lit; enables = put s.enables c e2.lit; writes = s.writes; rams = s.rams }

-- a RAM: write enable i and the write clock's activity, bit 0 first
abbrev pub write_end : Netlist → (ℕ → ℕ) → ℕ → Ends → ℕ → Ends
write_end n lits c s i =
    let m : Made = and_of s.drivers (first_or 0 lits (named_bit n c #W_EN i)) (first_or 0 s.active (named n c #W_CLK)) in
    record { drivers = m.drivers; active = s.active; nexts = s.nexts; enables = s.enables; writes = put s.writes c (put (s.writes c) i m.lit); rams = s.rams }

abbrev pub ram_ends : Netlist → (ℕ → ℕ) → Ends → ℕ → Ends
ram_ends n lits s c =
    over (write_end n lits c)
    (record { drivers = s.drivers; active = s.active; nexts = s.nexts; enables = s.enables; writes = s.writes; rams = insert s.rams c })
    (upto 32)

abbrev pub cell_ends : Netlist → (ℕ → ℕ) → Ends → ℕ → Kind → Ends
cell_ends n lits s c top = s
cell_ends n lits s c (and2 x y z) = s
cell_ends n lits s c inv = s
cell_ends n lits s c buf = s
cell_ends n lits s c dff = flop_ends n lits s c
cell_ends n lits s c clock_gate = s
cell_ends n lits s c ram = ram_ends n lits s c
cell_ends n lits s c unfit = s

-- a cell traces its clocks in list order, then makes its ANDs
abbrev pub end_cell : Netlist → (ℕ → ℕ) → Ends → ℕ → Ends
end_cell n lits s c = cell_ends n lits (over (trace_clock n lits) s (clocks_of n c)) c (kind_of n c)

abbrev pub start3 : Build → Ends
start3 b = record { drivers = b.drivers; active = λ p. 0; nexts = λ c. 0; enables = λ c. 0; writes = λ c i. 0; rams = b.rams }

unfoldable pub step3 : Netlist → Ends
step3 n = over (end_cell n (step2 n).lits) (start3 (step2 n)) (upto (cells n))

-- ---- the graph that is built
abbrev pub record_of : Build → Ends → ℕ → Record
record_of b s c = record { next = s.nexts c; enable = s.enables c; pin = b.flop_pin c }

-- absent literals are 0
abbrev pub ram_row_of : Netlist → Build → Ends → ℕ → RamRow
ram_row_of n b s c = record {
  read_enable = first_or 0 s.active (named n c #R_CLK);
  read_address = map (λ i. first_or 0 b.lits (named_bit n c #R_ADDR i)) (upto 13);
  read_data = map (b.read_pin c) (upto 32);
  write_address = map (λ i. first_or 0 b.lits (named_bit n c #W_ADDR i)) (upto 13);
  write_enable = map (s.writes c) (upto 32);
  write_data = map (λ i. first_or 0 b.lits (named_bit n c #W_DATA i)) (upto 32);
}

abbrev pub graph_of : Netlist → Graph
graph_of n = record {
  drivers = (step3 n).drivers;
  outputs = (step2 n).outs;
  dffs = map (record_of (step2 n) (step3 n)) (step2 n).flops;
  rams = map (ram_row_of n (step2 n) (step3 n)) (step3 n).rams;
}

-- the literal or marker of each netlist pin
abbrev pub literals_of : Netlist → List ℕ
literals_of n = map (step2 n).lits (upto (size n))

-- ---- fanouts: each pin's gates in falling order, twice if both operands read it
abbrev pub down_from : ℕ → List ℕ
down_from zero = []
down_from (suc k) = k ∷ down_from k

-- the gate u once for each of its operands that reads p
abbrev pub reads_by : ℕ → ℕ → Driver → List ℕ
reads_by p u d = map (λ o. u) (keep (λ o. o == p) (operands d))

abbrev pub gates_reading : List Driver → ℕ → List ℕ
gates_reading ds p = flat (λ u. reads_by p u (driver_at ds u)) (down_from (length ds))

-- the lists of the pins below p, one after the other
abbrev pub fanouts_below : List Driver → ℕ → List ℕ
fanouts_below ds p = flat (gates_reading ds) (upto p)

abbrev pub fanouts : List Driver → List ℕ
fanouts ds = fanouts_below ds (length ds)

-- where each pin's list begins, and the end of the last: pins + 2 entries
abbrev pub fanout_starts : List Driver → List ℕ
fanout_starts ds = map (λ p. length (fanouts_below ds p)) (upto (length ds + 1))

-- ---- tallies: each the count of such entries in the tables
abbrev pub is_gate : Driver → Bool
is_gate (And a b) = true
is_gate (Port q) = false
is_gate (Flag q e) = false
is_gate (Dff c) = false
is_gate (Ram c) = false
is_gate Constant = false

abbrev pub gate_count : List Driver → ℕ
gate_count ds = length (keep is_gate ds)

abbrev pub tally : Graph → Tally
tally g = record {
  pins = length g.drivers - 1;
  gates = gate_count g.drivers;
  outputs = length g.outputs;
  dffs = length g.dffs;
  rams = length g.rams;
}
