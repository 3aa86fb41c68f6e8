-- Document 01, "The netlist tables": the tables as lent, their accessors, and the fixed table of kinds with the pins of each.
use Rattle.std.specs.Prelude.{Bool, true, false, not, ◌&&◌, ◌||◌, List, [], ◌∷◌, ℕ, ◌+◌, ◌-◌, ◌*◌, length, get_or, take, drop, ◌==◌}
use Rattle.laws.specs.Tests.{◌<?◌, ◌≤?◌, same}
use Rattle.laws.specs.Lists.{count, keep, every, any, upto}

-- ---- the tables
pub record Netlist : Type 0 where
  -- the kind of each cell
  pub kinds : List ℕ
  -- where each cell's list begins in `list`, and the end of the last
  pub starts : List ℕ
  -- the cells' pin lists, one after the other
  pub list : List ℕ
  -- five words a pin: cell, name, bit, direction (0 in, 1 out), net
  pub pins : List ℕ
  -- by net: 0 constant 0, 1 constant 1, 2 + p driven by pin p
  pub nets : List ℕ

-- how many cells, pins and nets there are
abbrev pub cells : Netlist → ℕ
cells n = length n.kinds

abbrev pub size : Netlist → ℕ
size n = length n.list

abbrev pub net_count : Netlist → ℕ
net_count n = length n.nets

-- the words of a pin
abbrev pub pin_word : Netlist → ℕ → ℕ → ℕ
pin_word n i p = get_or n.pins (5 * p + i) 0

abbrev pub cell_of : Netlist → ℕ → ℕ
cell_of n p = pin_word n 0 p

abbrev pub name_of : Netlist → ℕ → ℕ
name_of n p = pin_word n 1 p

abbrev pub bit_of : Netlist → ℕ → ℕ
bit_of n p = pin_word n 2 p

abbrev pub direction_of : Netlist → ℕ → ℕ
direction_of n p = pin_word n 3 p

abbrev pub is_out : Netlist → ℕ → Bool
is_out n p = direction_of n p == 1

abbrev pub net_of : Netlist → ℕ → ℕ
net_of n p = pin_word n 4 p

-- what drives a net
abbrev pub net_word : Netlist → ℕ → ℕ
net_word n t = get_or n.nets t 0

abbrev pub start_of : Netlist → ℕ → ℕ
start_of n c = get_or n.starts c 0

-- a cell's pins, in the order that the caller chose
abbrev pub pins_of : Netlist → ℕ → List ℕ
pins_of n c = take (start_of n (c + 1) - start_of n c) (drop (start_of n c) n.list)

-- ---- the names of pins
abbrev pub #PORT : ℕ
#PORT = 0

abbrev pub #A : ℕ
#A = 1

abbrev pub #B : ℕ
#B = 2

abbrev pub #OUT : ℕ
#OUT = 3

abbrev pub #D : ℕ
#D = 4

abbrev pub #CLK : ℕ
#CLK = 5

abbrev pub #S : ℕ
#S = 6

abbrev pub #R : ℕ
#R = 7

abbrev pub #CP : ℕ
#CP = 8

abbrev pub #E : ℕ
#E = 9

abbrev pub #R_ADDR : ℕ
#R_ADDR = 10

abbrev pub #R_CLK : ℕ
#R_CLK = 11

abbrev pub #R_DATA : ℕ
#R_DATA = 12

abbrev pub #W_ADDR : ℕ
#W_ADDR = 13

abbrev pub #W_CLK : ℕ
#W_CLK = 14

abbrev pub #W_DATA : ℕ
#W_DATA = 15

abbrev pub #W_EN : ℕ
#W_EN = 16

-- ---- first rule: the fixed table of kinds
pub data Kind : Type 0 where
  top : Kind
  -- AND2_xy_z
  and2 : Bool → Bool → Bool → Kind
  inv : Kind
  buf : Kind
  -- DFF and DFFSR
  dff : Kind
  -- CKLNQD
  clock_gate : Kind
  ram : Kind
  -- LATCH, and any number past the table
  unfit : Kind

-- by number: 0 top, 1 to 5 the AND2s, 6 INV, 7 BUF, 8 DFF, 9 DFFSR, 10 CKLNQD, 11 RAM, 12 LATCH
abbrev pub kind_table : List Kind
kind_table =
    top ∷ and2 false false false ∷ and2 false true false ∷ and2 true false false ∷ and2 true true false ∷ and2 true true true
    ∷ inv ∷ buf ∷ dff ∷ dff ∷ clock_gate ∷ ram ∷ unfit ∷ []

abbrev pub kind_word : Netlist → ℕ → ℕ
kind_word n c = get_or n.kinds c 0

abbrev pub kind_of : Netlist → ℕ → Kind
kind_of n c = get_or kind_table (kind_word n c) unfit

-- the pins of a cell with a name, and with a name and a bit
abbrev pub named : Netlist → ℕ → ℕ → List ℕ
named n c m = keep (λ p. name_of n p == m) (pins_of n c)

abbrev pub named_bit : Netlist → ℕ → ℕ → ℕ → List ℕ
named_bit n c m b = keep (λ p. (name_of n p == m) && (bit_of n p == b)) (pins_of n c)

-- the pin of a cell that has a required name
abbrev pub pin_named : Netlist → ℕ → ℕ → ℕ
pin_named n c m = get_or (named n c m) 0 0

-- ---- fourth rule: which pins a kind of cell must and may have
-- a pin that a kind of cell may have: its name, whether out, how many bits, and whether it must be there
pub record Slot : Type 0 where
  pub name : ℕ
  pub out : Bool
  pub bits : ℕ
  pub must : Bool

abbrev pub must_in : ℕ → Slot
must_in m = record { name = m; out = false; bits = 1; must = true }

abbrev pub must_out : ℕ → Slot
must_out m = record { name = m; out = true; bits = 1; must = true }

abbrev pub may_in : ℕ → ℕ → Slot
may_in m k = record { name = m; out = false; bits = k; must = false }

abbrev pub may_out : ℕ → ℕ → Slot
may_out m k = record { name = m; out = true; bits = k; must = false }

-- the top has ports of both directions; address bits are 0 to 12, data and write-enable bits 0 to 31
abbrev pub slots : Kind → List Slot
slots top = may_in #PORT 1 ∷ may_out #PORT 1 ∷ []
slots (and2 x y z) = must_in #A ∷ must_in #B ∷ must_out #OUT ∷ []
slots inv = must_in #A ∷ must_out #OUT ∷ []
slots buf = must_in #A ∷ must_out #OUT ∷ []
slots dff = may_in #D 1 ∷ may_in #CLK 1 ∷ may_in #S 1 ∷ may_in #R 1 ∷ must_out #OUT ∷ []
slots clock_gate = must_in #CP ∷ must_in #E ∷ must_out #OUT ∷ []
slots ram =
    may_in #R_ADDR 13 ∷ may_in #R_CLK 1 ∷ may_out #R_DATA 32 ∷ may_in #W_ADDR 13 ∷ may_in #W_CLK 1 ∷ may_in #W_DATA 32 ∷ may_in #W_EN 32 ∷ []
slots unfit = []

-- ---- the four rules as tests that pass
-- first rule: kinds up to 12, cell 0 is the top and no other cell is
abbrev pub kinds_fit : Netlist → Bool
kinds_fit n = every (λ c. (kind_word n c ≤? 12) && same (kind_word n c == 0) (c == 0)) (upto (cells n))

abbrev pub no_latch : Netlist → Bool
no_latch n = every (λ c. not (kind_word n c == 12)) (upto (cells n))

-- second rule: the lists lie one behind the other and fill `list`
abbrev pub starts_fit : Netlist → Bool
starts_fit n =
    (start_of n 0 == 0) && (start_of n (cells n) == size n) && every (λ c. start_of n c ≤? start_of n (c + 1)) (upto (cells n))

-- second rule: each pin has a cell, a direction and a net, and stands once in its own cell's list
abbrev pub pin_fits : Netlist → ℕ → Bool
pin_fits n p =
    (cell_of n p <? cells n) && (net_of n p <? net_count n) && (direction_of n p ≤? 1) && (count p (pins_of n (cell_of n p)) == 1)

-- second rule: a cell's list names pins of that cell alone
abbrev pub list_fits : Netlist → ℕ → Bool
list_fits n c = every (λ p. (p <? size n) && (cell_of n p == c)) (pins_of n c)

-- fourth rule: no other pin
abbrev pub in_slot : Netlist → ℕ → Slot → Bool
in_slot n p s = same (is_out n p) s.out && (name_of n p == s.name) && (bit_of n p <? s.bits)

-- fourth rule: none twice; but the top has any number of ports
abbrev pub pin_allowed : Netlist → ℕ → Bool
pin_allowed n p =
    any (in_slot n p) (slots (kind_of n (cell_of n p)))
    && ((cell_of n p == 0) || (length (named_bit n (cell_of n p) (name_of n p) (bit_of n p)) == 1))

-- fourth rule: the required pins are there
abbrev pub has_must : Netlist → ℕ → Bool
has_must n c = every (λ s. not s.must || (0 <? length (named n c s.name))) (slots (kind_of n c))

abbrev pub pins_fit : Netlist → Bool
pins_fit n =
    starts_fit n && every (pin_fits n) (upto (size n)) && every (list_fits n) (upto (cells n))
    && every (pin_allowed n) (upto (size n)) && every (has_must n) (upto (cells n))

-- third rule: a net is constant, or driven by an out pin on it
abbrev pub net_fits : Netlist → ℕ → Bool
net_fits n t =
    (net_word n t <? 2)
    || ((net_word n t - 2 <? size n) && is_out n (net_word n t - 2) && (net_of n (net_word n t - 2) == t))

-- third rule: an out pin drives its net
abbrev pub drives : Netlist → ℕ → Bool
drives n p = not (is_out n p) || (net_word n (net_of n p) == 2 + p)

abbrev pub nets_fit : Netlist → Bool
nets_fit n = every (net_fits n) (upto (net_count n)) && every (drives n) (upto (size n))
