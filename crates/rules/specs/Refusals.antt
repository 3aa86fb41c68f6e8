-- Document 01, "What is turned away", by number. A test that passes means that the number is not given. 1, 2 and 11 speak of counts and
-- lent tables and are said for each call in `Answers`.
use Rattle.std.specs.Prelude.{Option, None, Some, ◌≡◌, Bool, true, false, not, ◌&&◌, ◌||◌, List, [], ◌∷◌, ◌++◌, map, ℕ, zero, suc, ◌+◌, ◌*◌, ◌<◌, length, if◌then◌else◌, ◌==◌}
use Rattle.laws.specs.Tests.{◌<?◌, ◌≤?◌, one, or_else, refuse}
use Rattle.laws.specs.Lists.{count, keep, every, any, flat, upto}
use Rattle.laws.specs.Search.{level_by, Chain}
use Rattle.rules.specs.declared.Driver.{Driver}
use Rattle.rules.specs.declared.Driver.TheVariants.{And, Port, Flag, Dff, Ram, Constant}
use Rattle.rules.specs.declared.Tally.{Tally}
use Rattle.rules.specs.declared.Rooms.{Rooms}
use Rattle.rules.specs.Netlist.{
  Netlist,
  cells,
  size,
  name_of,
  pins_of,
  kind_of,
  Kind,
  top,
  and2,
  inv,
  buf,
  dff,
  clock_gate,
  ram,
  unfit,
  kinds_fit,
  no_latch,
  pins_fit,
  nets_fit,
  #A,
  #B,
  #D,
  #S,
  #R,
  #E,
  #R_ADDR,
  #W_ADDR,
  #W_DATA,
  #W_EN,
}
use Rattle.rules.specs.Cells.{Logic}
use Rattle.rules.specs.Graph.{pin_of, Graph, RamRow, pin_count}
use Rattle.rules.specs.Build.{
  Role,
  tied,
  wire,
  out_port,
  in_port,
  and_out,
  inv_out,
  buf_out,
  gate_out,
  dff_out,
  ram_out,
  nothing,
  role,
  next,
  Walk,
  still,
  root,
  gated,
  strange,
  far,
  walk,
  clocks,
}
use Rattle.rules.specs.Tables.{decode_at}
use Rattle.rules.specs.Stages.{inputs}

-- ---- 3: a kind above 12, cell 0 not top, or another top; 4: a LATCH; 5: the second or fourth rule of the netlist tables; 6: the net rule
abbrev pub tables_number : Netlist → ℕ
tables_number n =
    or_else (refuse 3 (kinds_fit n)) (or_else (refuse 4 (no_latch n)) (or_else (refuse 5 (pins_fit n)) (refuse 6 (nets_fit n))))

-- ---- 7: a chain of visits from a pin back to itself
pub record Loop (n : Netlist) : Type 0 where
  pub pin : ℕ
  pub inside : pin < size n
  pub chain : Chain (next n) pin pin

-- the same, computed: with as many steps as there are pins no chain of visits is still going on
abbrev pub loop_free : Netlist → Bool
loop_free n = every (λ p. level_by (next n) (size n) p <? size n) (upto (size n))

-- ---- 8: a walk meets, in its first 64 cells, a kind other than INV, BUF, CKLNQD; 9: it meets a 65th cell
abbrev pub walk_number : Walk → ℕ
walk_number still = 0
walk_number (root q e) = 0
walk_number (gated w e) = walk_number w
walk_number strange = 8
walk_number far = 9

-- the walks in step 1 order; the first failure gives the number
abbrev pub first_number : Netlist → List ℕ → ℕ
first_number n [] = 0
first_number n (p ∷ ps) = or_else (walk_number (walk n p)) (first_number n ps)

abbrev pub clocks_number : Netlist → ℕ
clocks_number n = first_number n (clocks n)

-- ---- 10: a marker reaches AND2, D, S, R, E, a RAM address, data or write enable, or an output port
abbrev pub must_be_logic : Kind → ℕ → Bool
must_be_logic top m = true
must_be_logic (and2 x y z) m = (m == #A) || (m == #B)
must_be_logic inv m = false
must_be_logic buf m = false
must_be_logic dff m = (m == #D) || (m == #S) || (m == #R)
must_be_logic clock_gate m = m == #E
must_be_logic ram m = (m == #R_ADDR) || (m == #W_ADDR) || (m == #W_DATA) || (m == #W_EN)
must_be_logic unfit m = false

abbrev pub logic_pins : Netlist → ℕ → List ℕ
logic_pins n c = keep (λ p. must_be_logic (kind_of n c) (name_of n p)) (pins_of n c)

abbrev pub NoMarker : Netlist → Type 0
NoMarker n = (c p : ℕ) → c < cells n → 0 < count p (logic_pins n c) → Logic n p

-- the same, computed: whether a marker reaches a pin, and whether after an odd number of INVs
abbrev pub turn_mark : Option Bool → Option Bool
turn_mark None = None
turn_mark (Some odd) = Some (not odd)

abbrev pub mark_of : (ℕ → Option Bool) → Role → Option Bool
mark_of h (tied b) = None
mark_of h (wire q) = h q
mark_of h (out_port q) = h q
mark_of h in_port = None
mark_of h (and_out x y z a b) = None
mark_of h (inv_out a) = turn_mark (h a)
mark_of h (buf_out a) = h a
mark_of h (gate_out cp e) = Some false
mark_of h (dff_out c) = None
mark_of h (ram_out c b) = None
mark_of h nothing = None

abbrev pub mark_by : Netlist → ℕ → ℕ → Option Bool
mark_by n zero p = None
mark_by n (suc f) p = mark_of (mark_by n f) (role n p)

abbrev pub mark : Netlist → ℕ → Option Bool
mark n p = mark_by n (size n) p

abbrev pub is_none : Option Bool → Bool
is_none None = true
is_none (Some b) = false

abbrev pub mark_free : Netlist → Bool
mark_free n = every (λ c. every (λ p. is_none (mark n p)) (logic_pins n c)) (upto (cells n))

-- ---- building tests 3 to 7 in order, then the clock walks, then 10
abbrev pub check_number : Netlist → ℕ
check_number n = or_else (tables_number n) (or_else (refuse 7 (loop_free n)) (clocks_number n))

abbrev pub netlist_number : Netlist → ℕ
netlist_number n = or_else (check_number n) (refuse 10 (mark_free n))

-- a netlist that none of 3 to 10 turns away
pub record Accepted (n : Netlist) : Type 0 where
  pub tables : tables_number n ≡ 0
  pub no_loop : Loop n → ⊥
  pub clocks_found : clocks_number n ≡ 0
  pub no_marker : NoMarker n

-- ---- 11: the answer needs more room than a result table has
abbrev pub room_fits : Tally → Rooms → Bool
room_fits t r =
    (t.pins ≤? r.pins) && (t.outputs ≤? r.outputs) && (t.dffs ≤? r.dffs) && (t.rams ≤? r.rams) && (2 * t.gates ≤? r.fanouts)

-- ---- 12, what speaks of drivers: each is one of the cases, pin 0 is constant and no other is, a gate's operand pins are at least 1 and less
-- than its own pin, and its literals stand smaller first
abbrev pub operand_fits : ℕ → ℕ → Bool
operand_fits u a = (1 ≤? pin_of a) && (pin_of a <? u)

abbrev pub driver_fits : ℕ → Option Driver → Bool
driver_fits u (Some (And a b)) = operand_fits u a.word && operand_fits u b.word && (a.word ≤? b.word)
driver_fits u (Some (Port q)) = 0 <? u
driver_fits u (Some (Flag q e)) = 0 <? u
driver_fits u (Some (Dff c)) = 0 <? u
driver_fits u (Some (Ram c)) = 0 <? u
driver_fits u (Some Constant) = u == 0
driver_fits u None = false

abbrev pub drivers_fit : List ℕ → ℕ → Bool
drivers_fit ws pins = every (λ u. driver_fits u (decode_at ws u)) (upto (pins + 1))

-- 12, what speaks of records: the pins with flip-flop or RAM drivers are one for one the records' pins, where 0 in read data is absent
abbrev pub is_dff : Driver → Bool
is_dff (And a b) = false
is_dff (Port q) = false
is_dff (Flag q e) = false
is_dff (Dff c) = true
is_dff (Ram c) = false
is_dff Constant = false

abbrev pub is_ram : Driver → Bool
is_ram (And a b) = false
is_ram (Port q) = false
is_ram (Flag q e) = false
is_ram (Dff c) = false
is_ram (Ram c) = true
is_ram Constant = false

abbrev pub dff_pins : Graph → List ℕ
dff_pins g = map (λ r. r.pin) g.dffs

abbrev pub ram_pins : Graph → List ℕ
ram_pins g = keep (λ p. 0 <? p) (flat (λ r. r.read_data) g.rams)

abbrev pub one_for_one : (Driver → Bool) → List ℕ → Graph → Bool
one_for_one t ps g =
    every (λ p. p ≤? pin_count g) ps
    && every (λ u. count u ps == one (t (Rattle.rules.specs.Graph.driver_of g u))) (upto (pin_count g + 1))

-- 12, what speaks of literals: none names a pin past the count, and no output literal repeats
abbrev pub ram_literals : RamRow → List ℕ
ram_literals r = r.read_enable ∷ (r.read_address ++ (r.write_address ++ (r.write_enable ++ r.write_data)))

abbrev pub literals_in : Graph → List ℕ
literals_in g = g.outputs ++ (flat (λ r. r.next ∷ r.enable ∷ []) g.dffs ++ flat ram_literals g.rams)

abbrev pub records_fit : Graph → Bool
records_fit g =
    one_for_one is_dff (dff_pins g) g && one_for_one is_ram (ram_pins g) g
    && every (λ l. pin_of l ≤? pin_count g) (literals_in g) && every (λ l. count l g.outputs == 1) g.outputs

-- ---- 13: split levels do not strictly increase
abbrev pub rising : List ℕ → Bool
rising [] = true
rising (a ∷ []) = true
rising (a ∷ b ∷ bs) = (a <? b) && rising (b ∷ bs)

-- ---- 14: no chosen endpoint reads a pin other than 0
abbrev pub something_read : Graph → List ℕ → Bool
something_read g chosen = any (λ e. 0 <? length (inputs g e)) chosen

-- ---- 15: an index is out of range; where a set is asked, one repeats
abbrev pub below : ℕ → List ℕ → Bool
below m is = every (λ i. i <? m) is

abbrev pub no_repeat : List ℕ → Bool
no_repeat is = every (λ i. count i is == 1) is

-- 15, of a subset: an endpoint stands before a handed-on pin
abbrev pub handed_first : ℕ → List ℕ → Bool
handed_first handed [] = true
handed_first handed (i ∷ is) = if i <? handed then handed_first handed is else every (λ j. handed ≤? j) is
