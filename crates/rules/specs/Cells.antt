-- Document 01, "Meaning of the cells": what bit each pin has, what a clock pin's activity is, and which pins have no logic bit. All of it
-- speaks of the netlist alone.
use Rattle.std.specs.Prelude.{◌≡◌, Bool, true, false, not, ◌&&◌, ◌||◌, List, [], ◌∷◌, ℕ, ◌+◌, ◌<◌}
use Rattle.laws.specs.Tests.{xor}
use Rattle.laws.specs.Lists.{count, first_or}
use Rattle.rules.specs.declared.Edge.{Edge}
use Rattle.rules.specs.declared.Edge.TheVariants.{Rising, Falling}
use Rattle.rules.specs.Netlist.{Netlist, cells, size, cell_of, is_out, net_of, net_word, kind_of, and2, inv, buf, dff, clock_gate, ram, named, named_bit, pin_named, #A, #B, #OUT, #D, #S, #R, #CP, #E, #R_DATA, #W_EN}

-- the bits that come from outside: of each input port, of each clock flag (port and edge), of each flip-flop cell, of each RAM cell's read data
pub record Env : Type 0 where
  pub port_bit : ℕ → Bool
  pub flag_bit : ℕ → Edge → Bool
  pub stored : ℕ → Bool
  pub read_bit : ℕ → ℕ → Bool

-- ---- the formulas
-- AND2_xy_z
abbrev pub and2_out : Bool → Bool → Bool → Bool → Bool → Bool
and2_out x y z a b = xor z (xor x a && xor y b)

-- a flip-flop's output, with stored bit q; S and R are active low, and reset wins
abbrev pub flop_out : Bool → Bool → Bool → Bool
flop_out q s r = (q || not s) && r

-- a flip-flop record: its next bit, and its enable with activity a of CLK
abbrev pub flop_next : Bool → Bool → Bool → Bool
flop_next d s r = (d || not s) && r

abbrev pub flop_enable : Bool → Bool → Bool → Bool
flop_enable a s r = a || not s || not r

-- an edge seen through an INV
abbrev pub other_edge : Edge → Edge
other_edge Rising = Falling
other_edge Falling = Rising

-- ---- markers: a CKLNQD output, and each pin that a net, INV or BUF carries it to; `true` after an odd number of INVs
pub data Carried (n : Netlist) : ℕ → Bool → Type 0 where
  from_gate : {p : ℕ} → is_out n p ≡ true → kind_of n (cell_of n p) ≡ clock_gate → Carried n p false
  over_net : {p : ℕ} {odd : Bool} (q : ℕ) → is_out n p ≡ false → net_word n (net_of n p) ≡ 2 + q → Carried n q odd → Carried n p odd
  over_buf : {p : ℕ} {odd : Bool} → is_out n p ≡ true → kind_of n (cell_of n p) ≡ buf
      → Carried n (pin_named n (cell_of n p) #A) odd → Carried n p odd
  over_inv : {p : ℕ} {odd : Bool} → is_out n p ≡ true → kind_of n (cell_of n p) ≡ inv
      → Carried n (pin_named n (cell_of n p) #A) odd → Carried n p (not odd)

-- a pin that has a logic bit
abbrev pub Logic : Netlist → ℕ → Type 0
Logic n p = (odd : Bool) → Carried n p odd → ⊥

-- ---- the bits of the pins
-- the bit of a cell's pin with this name, or d where it is absent
abbrev pub bit_named : Netlist → (ℕ → Bool) → Bool → ℕ → ℕ → Bool
bit_named n v d c m = first_or d v (named n c m)

-- the bit of a RAM's pin with this name and bit; absent it is 0
abbrev pub bit_at : Netlist → (ℕ → Bool) → ℕ → ℕ → ℕ → Bool
bit_at n v c m i = first_or false v (named_bit n c m i)

-- bits of pins that obey the cells, at each pin that has a logic bit
pub record CellRules (n : Netlist) (env : Env) (v : ℕ → Bool) : Type 0 where
  -- an in pin, an output port too, has the bit of its net
  pub net_0 : (p : ℕ) → p < size n → is_out n p ≡ false → net_word n (net_of n p) ≡ 0 → v p ≡ false
  pub net_1 : (p : ℕ) → p < size n → is_out n p ≡ false → net_word n (net_of n p) ≡ 1 → v p ≡ true
  pub net_driven_bit : (p q : ℕ) → p < size n → Logic n p → is_out n p ≡ false → net_word n (net_of n p) ≡ 2 + q → v p ≡ v q
  -- an input port has the bit that comes from outside
  pub in_port_bit : (p : ℕ) → p < size n → is_out n p ≡ true → cell_of n p ≡ 0 → v p ≡ env.port_bit p
  -- AND2 computes its formula, INV inverts, BUF copies
  pub and2_rule : (c o : ℕ) (x y z : Bool) → c < cells n → kind_of n c ≡ and2 x y z → 0 < count o (named n c #OUT)
      → v o ≡ and2_out x y z (v (pin_named n c #A)) (v (pin_named n c #B))
  pub inv_rule : (c o : ℕ) → c < cells n → kind_of n c ≡ inv → 0 < count o (named n c #OUT) → Logic n o → v o ≡ not (v (pin_named n c #A))
  pub buf_rule : (c o : ℕ) → c < cells n → kind_of n c ≡ buf → 0 < count o (named n c #OUT) → Logic n o → v o ≡ v (pin_named n c #A)
  -- a flip-flop's output; S and R are 1 when absent
  pub dff_rule : (c o : ℕ) → c < cells n → kind_of n c ≡ dff → 0 < count o (named n c #OUT)
      → v o ≡ flop_out (env.stored c) (bit_named n v true c #S) (bit_named n v true c #R)
  -- a RAM's read data come from outside
  pub ram_rule : (c o i : ℕ) → c < cells n → kind_of n c ≡ ram → 0 < count o (named_bit n c #R_DATA i) → v o ≡ env.read_bit c i

-- ---- activity of a clock pin for an edge: 0 on a constant net, at an input port the flag, through INV the other edge's, through BUF the same,
-- through CKLNQD that of CP and the bit of E
pub data Active (n : Netlist) (env : Env) (v : ℕ → Bool) : ℕ → Edge → Bool → Type 0 where
  at_constant : {p : ℕ} {e : Edge} → is_out n p ≡ false → net_word n (net_of n p) < 2 → Active n env v p e false
  at_port : {p : ℕ} {e : Edge} (q : ℕ) → is_out n p ≡ false → net_word n (net_of n p) ≡ 2 + q → is_out n q ≡ true → cell_of n q ≡ 0
      → Active n env v p e (env.flag_bit q e)
  through_inv : {p : ℕ} {e : Edge} {x : Bool} (q : ℕ) → is_out n p ≡ false → net_word n (net_of n p) ≡ 2 + q → is_out n q ≡ true
      → kind_of n (cell_of n q) ≡ inv → Active n env v (pin_named n (cell_of n q) #A) (other_edge e) x → Active n env v p e x
  through_buf : {p : ℕ} {e : Edge} {x : Bool} (q : ℕ) → is_out n p ≡ false → net_word n (net_of n p) ≡ 2 + q → is_out n q ≡ true
      → kind_of n (cell_of n q) ≡ buf → Active n env v (pin_named n (cell_of n q) #A) e x → Active n env v p e x
  through_gate : {p : ℕ} {e : Edge} {x : Bool} (q : ℕ) → is_out n p ≡ false → net_word n (net_of n p) ≡ 2 + q → is_out n q ≡ true
      → kind_of n (cell_of n q) ≡ clock_gate → Active n env v (pin_named n (cell_of n q) #CP) e x
      → Active n env v p e (x && v (pin_named n (cell_of n q) #E))

-- of a cell's clock pin with this name; the first edge asked is rising, and an absent pin has activity 0
abbrev pub ActiveFirst : Netlist → Env → (ℕ → Bool) → List ℕ → Bool → Type 0
ActiveFirst n env v [] x = x ≡ false
ActiveFirst n env v (p ∷ ps) x = Active n env v p Rising x

abbrev pub ClockActive : Netlist → Env → (ℕ → Bool) → ℕ → ℕ → Bool → Type 0
ClockActive n env v c m x = ActiveFirst n env v (named n c m) x

-- ---- the records
-- the next bit of a flip-flop cell, and its enable with activity a of CLK; D is 0 when absent
abbrev pub next_bit : Netlist → (ℕ → Bool) → ℕ → Bool
next_bit n v c = flop_next (bit_named n v false c #D) (bit_named n v true c #S) (bit_named n v true c #R)

abbrev pub enable_bit : Netlist → (ℕ → Bool) → ℕ → Bool → Bool
enable_bit n v c a = flop_enable a (bit_named n v true c #S) (bit_named n v true c #R)

-- the write enable of a RAM's bit i, with activity a of the write clock
abbrev pub write_bit : Netlist → (ℕ → Bool) → ℕ → Bool → ℕ → Bool
write_bit n v c a i = bit_at n v c #W_EN i && a
