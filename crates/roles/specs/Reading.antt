-- The netlist of lent tables, what it is for them to fit, and what is read of them by value.
use Rattle.std.specs.Prelude.{Option, Some, None, ◌≡◌, Bool, ◌||◌, List, [], ◌∷◌, ℕ, zero, suc, ◌+◌, ◌-◌, ◌*◌, ◌<◌, ◌≤◌, length, get_or, take, drop, ◌==◌}
use Rattle.laws.specs.Lists.{keep}
use Rattle.rules.specs.Netlist.{Netlist, Kind, top, and2, inv, buf, dff, clock_gate, ram, unfit, kind_table}
use Rattle.rules.specs.Build.{Role, tied, wire, out_port, in_port, and_out, inv_out, buf_out, gate_out, dff_out, ram_out, nothing}
use Rattle.rules.specs.Refusals.{tables_number}
use Rattle.roles.specs.declared.PinRole.{PinRole}
use Rattle.roles.specs.declared.PinRole.TheVariants.{Tied, Wire, OutPort, InPort, AndOut, InvOut, BufOut, GateOut, DffOut, RamOut, Nothing}

abbrev pub tables : List ℕ → List ℕ → List ℕ → List ℕ → List ℕ → Netlist
tables kinds starts list pins nets = record { kinds = kinds; starts = starts; list = list; pins = pins; nets = nets }

-- tables of the lengths of their counts that refusals 3 to 6 do not turn away
pub record Fits (n : Netlist) : Type 0 where
  pub starts_long : length n.starts ≡ length n.kinds + 1
  pub pins_long : length n.pins ≡ 5 * length n.list
  pub accepted : tables_number n ≡ 0

-- ---- the lists
abbrev pub cell_pins : List ℕ → List ℕ → ℕ → List ℕ
cell_pins starts list c = take (get_or starts (c + 1) 0 - get_or starts c 0) (drop (get_or starts c 0) list)

-- each cell's list lies within `list` and names pins within `pins`
pub record Laid (starts list pins : List ℕ) : Type 0 where
  pub rise : (c : ℕ) → c + 1 < length starts → get_or starts c 0 ≤ get_or starts (c + 1) 0
  pub within : (c : ℕ) → c < length starts → get_or starts c 0 ≤ length list
  pub entries : (c j : ℕ) → c + 1 < length starts → get_or starts c 0 ≤ j → j < get_or starts (c + 1) 0 → 5 * get_or list j 0 + 4 < length pins

-- the same of n entries from a place on
pub record Held (list pins : List ℕ) (at n : ℕ) : Type 0 where
  pub fits : at + n ≤ length list
  pub entries : (j : ℕ) → j < n → 5 * get_or list (at + j) 0 + 4 < length pins

-- the pins of a list with one of two names
abbrev pub has_name : List ℕ → ℕ → ℕ → ℕ → Bool
has_name pins a b p = (get_or pins (5 * p + 1) 0 == a) || (get_or pins (5 * p + 1) 0 == b)

abbrev pub either_in : List ℕ → ℕ → ℕ → List ℕ → List ℕ
either_in pins a b l = keep (has_name pins a b) l

-- the entry at a place, by value
unfoldable pub entry_of : List ℕ → ℕ → Option ℕ
entry_of [] k = None
entry_of (x ∷ l) zero = Some x
entry_of (x ∷ l) (suc k) = entry_of l k

-- ---- roles by value
abbrev pub kind_at : ℕ → Kind
kind_at k = get_or kind_table k unfit

-- the output of an AND2 of this kind
abbrev pub and_as : Kind → ℕ → ℕ → Role
and_as top a b = nothing
and_as (and2 x y z) a b = and_out x y z a b
and_as inv a b = nothing
and_as buf a b = nothing
and_as dff a b = nothing
and_as clock_gate a b = nothing
and_as ram a b = nothing
and_as unfit a b = nothing

abbrev pub says : PinRole → Role
says (Tied b) = tied b
says (Wire q) = wire q
says (OutPort q) = out_port q
says InPort = in_port
says (AndOut x y z a b) = and_out x y z a b
says (InvOut a) = inv_out a
says (BufOut a) = buf_out a
says (GateOut cp e) = gate_out cp e
says (DffOut c) = dff_out c
says (RamOut c b) = ram_out c b
says Nothing = nothing
