-- The cells' formulas written out: each AND2 by its name, set and reset, the records, and a clock behind an INV.
use mathlib.Core.Path.{◌≡◌, refl}
use mathlib.Core.Bool.{Bool, true, false, not, ◌&&◌, ◌||◌}
use mathlib.Core.List.{[], ◌∷◌}
use Prim.Native.Nat.{ℕ}
use lib.ListN.{get_or}
use Rattle.laws.proofs.Tests.{or_true, and-false}
use Rattle.rules.specs.declared.Edge.TheVariants.{Rising, Falling}
use Rattle.rules.specs.declared.Driver.TheVariants.{Port, Flag, Dff, Constant}
use Rattle.rules.specs.Netlist.{Netlist, Kind, top, and2, inv, buf, dff, clock_gate, ram, unfit, kind_table, #W_EN}
use Rattle.rules.specs.Cells.{Env, and2_out, flop_out, flop_next, flop_enable, bit_at, write_bit, Active}
use Rattle.rules.specs.Cells.Active.{at_port, through_inv}
use Rattle.rules.specs.Graph.{and_of}
use Rattle.rules.specs.Build.{step2, step3, root, walk}
use Rattle.rules.specs.Hand.{build, built}

-- ---- AND2_xy_z by its number in the table of kinds
abbrev out_of : Kind → Bool → Bool → Bool
out_of top a b = false
out_of (and2 x y z) a b = and2_out x y z a b
out_of inv a b = false
out_of buf a b = false
out_of dff a b = false
out_of clock_gate a b = false
out_of ram a b = false
out_of unfit a b = false

abbrev pub formula : ℕ → Bool → Bool → Bool
formula k a b = out_of (get_or kind_table k unfit) a b

pub and2_00_0 : (a b : Bool) → formula 1 a b ≡ (a && b)
and2_00_0 true b = refl
and2_00_0 false b = refl

pub and2_01_0 : (a b : Bool) → formula 2 a b ≡ (a && not b)
and2_01_0 true true = refl
and2_01_0 true false = refl
and2_01_0 false true = refl
and2_01_0 false false = refl

pub and2_10_0 : (a b : Bool) → formula 3 a b ≡ (not a && b)
and2_10_0 true b = refl
and2_10_0 false b = refl

pub and2_11_0 : (a b : Bool) → formula 4 a b ≡ (not a && not b)
and2_11_0 true true = refl
and2_11_0 true false = refl
and2_11_0 false true = refl
and2_11_0 false false = refl

pub and2_11_1 : (a b : Bool) → formula 5 a b ≡ (a || b)
and2_11_1 true true = refl
and2_11_1 true false = refl
and2_11_1 false true = refl
and2_11_1 false false = refl

-- ---- a flip-flop: reset wins, then set, else the stored bit
pub out_reset : (q s : Bool) → flop_out q s false ≡ false
out_reset q s = and-false (q || not s)

pub out_set : (q : Bool) → flop_out q false true ≡ true
out_set true = refl
out_set false = refl

pub out_stored : (q : Bool) → flop_out q true true ≡ q
out_stored true = refl
out_stored false = refl

-- its record: next alike with D; enabled by the clock, by set and by reset
pub next_reset : (d s : Bool) → flop_next d s false ≡ false
next_reset d s = and-false (d || not s)

pub next-set : (d : Bool) → flop_next d false true ≡ true
next-set true = refl
next-set false = refl

pub next_data : (d : Bool) → flop_next d true true ≡ d
next_data true = refl
next_data false = refl

pub enable_clock : (a : Bool) → flop_enable a true true ≡ a
enable_clock true = refl
enable_clock false = refl

pub enable_set : (a r : Bool) → flop_enable a false r ≡ true
enable_set true r = refl
enable_set false r = refl

pub enable_reset : (a s : Bool) → flop_enable a s false ≡ true
enable_reset a s = or_true (a || not s)

-- ---- a RAM's write enable needs the clock
pub write_quiet : (n : Netlist) (v : ℕ → Bool) (c i : ℕ) → write_bit n v c false i ≡ false
write_quiet n v c i = and-false (bit_at n v c #W_EN i)

pub write_active : (n : Netlist) (v : ℕ → Bool) (c i : ℕ) (b : Bool) → bit_at n v c #W_EN i ≡ b → write_bit n v c true i ≡ b
write_active n v c i true e = rw e
write_active n v c i false e = rw e

-- ---- a clock port behind an INV: the rising edge of the pin is the port's falling one
abbrev turned_clock : Netlist
turned_clock = record {
  kinds = 0 ∷ 6 ∷ 8 ∷ [];
  starts = 0 ∷ 1 ∷ 3 ∷ 5 ∷ [];
  list = 0 ∷ 1 ∷ 2 ∷ 3 ∷ 4 ∷ [];
  pins = 0 ∷ 0 ∷ 0 ∷ 1 ∷ 0
      ∷ 1 ∷ 1 ∷ 0 ∷ 0 ∷ 0
      ∷ 1 ∷ 3 ∷ 0 ∷ 1 ∷ 1
      ∷ 2 ∷ 5 ∷ 0 ∷ 0 ∷ 1
      ∷ 2 ∷ 3 ∷ 0 ∷ 1 ∷ 2 ∷ [];
  nets = 2 ∷ 4 ∷ 6 ∷ [];
}

pub turned_walk : walk turned_clock 3 ≡ root 0 Falling
turned_walk = refl

pub turned_active : (env : Env) (v : ℕ → Bool) → Active turned_clock env v 3 Rising (env.flag_bit 0 Falling)
turned_active env v = through_inv 2 refl refl refl refl (at_port 0 refl refl refl refl)

pub turned_built : build turned_clock ≡ built (record {
  graph = record { drivers = Constant ∷ Flag 0 Falling ∷ Port 0 ∷ Dff 2 ∷ []; outputs = []; dffs = (record { next = 0; enable = 2; pin = 3 }) ∷ []; rams = [] };
  literals = 4 ∷ 4 ∷ 5 ∷ 5 ∷ 6 ∷ [];
  starts = 0 ∷ 0 ∷ 0 ∷ 0 ∷ 0 ∷ [];
  fanouts = [];
})
unfolding and_of step2 step3
turned_built = refl
