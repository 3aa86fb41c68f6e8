-- Step 2 in words: what the driver table, the outputs and the work words hold of what the rules have built so far.
use Rattle.std.specs.Prelude.{◌≡◌, true, false, Option, Some, None, List, ℕ, ◌+◌, ◌*◌, ◌<◌, ◌≤◌, length, get_or, take}
use Rattle.laws.specs.Tests.{one}
use Rattle.laws.specs.Lists.{member, over}
use Rattle.laws.specs.Search.{Event, enter}
use Rattle.laws.specs.Words.{filled}
use Rattle.rules.specs.declared.Tally.{Tally}
use Rattle.rules.specs.declared.Rooms.{Rooms}
use Rattle.rules.specs.Netlist.{Netlist, size}
use Rattle.rules.specs.Graph.{marker}
use Rattle.rules.specs.Build.{Role, tied, wire, out_port, in_port, and_out, inv_out, buf_out, gate_out, dff_out, ram_out, nothing, Build, events, act, start2, step1}
use Rattle.rules.specs.Refusals.{Accepted}
use Rattle.roles.specs.Reading.{Fits}
use Rattle.orders.specs.State.{event_of}
use Rattle.drafts.specs.declared.Draft.{Draft}
use Rattle.drafts.specs.Table.{Table, drafted, counted, SameLoans}
use Rattle.drafts.specs.Layout.{index_at, Flags, Written}
use Rattle.visits.specs.declared.Leaving.{Leaving}
use Rattle.visits.specs.declared.Leaving.TheVariants.{Take, Copy, Output, Input, And, Flop, Ram}

-- the event at i, and what is built before it
unfoldable pub event_at : Netlist → ℕ → Event
event_at n i = get_or (events n) i (enter 0)

unfoldable pub state_at : Netlist → ℕ → Build
state_at n i = over (act n) (start2 (step1 n)) (take i (events n))

-- the pin that a flip-flop made for itself
abbrev pub own_pin : List ℕ → List ℕ → List ℕ → ℕ → ℕ
own_pin starts list w c = get_or w (length list + get_or starts c 0) 0

pub record Stored (starts list w : List ℕ) (c : ℕ) : Type 0 where
  pub there : c < length starts
  pub placed : get_or starts c 0 < length list
  pub small : own_pin starts list w c ≤ 16777215

-- what a pin makes when it is left
abbrev pub leaving_of : Role → Leaving
leaving_of (tied b) = Take (one b)
leaving_of (wire q) = Copy q false
leaving_of (out_port q) = Output q
leaving_of in_port = Input
leaving_of (and_out x y z a b) = And x y z a b
leaving_of (inv_out a) = Copy a true
leaving_of (buf_out a) = Copy a false
leaving_of (gate_out cp e) = Take marker
leaving_of (dff_out c) = Flop c
leaving_of (ram_out c b) = Ram c b
leaving_of nothing = Take 0

-- counts and rooms within their bounds
pub record Sized (m : ℕ) (rm : Rooms) : Type 0 where
  pub pins : m ≤ 1048576
  pub graph_pins : rm.pins ≤ 16777215
  pub outputs : rm.outputs ≤ 1048576
  pub dffs : rm.dffs ≤ 1048576
  pub rams : rm.rams ≤ 1048576

pub record Drafting (n : Netlist) (rm : Rooms) (w ws : List ℕ) (t : Tally) (b : Build) : Type 0 where
  pub sized : Sized (size n) rm
  pub table : Table (index_at (size n) rm.pins) w ws t
  pub long : length ws ≡ 3 * (rm.pins + 1)
  pub drivers : drafted ws t ≡ b.drivers
  pub written : Written n w b
  pub marked : (l : ℕ) → l < 2 * rm.pins + 2 → get_or w (8 * size n + l) 0 ≡ one (member l b.outs)
  pub outputs : t.outputs ≡ length b.outs
  pub dffs : t.dffs ≡ length b.flops
  pub rams : t.rams ≡ length b.rams
  pub dffs_fit : t.dffs ≤ rm.dffs
  pub rams_fit : t.rams ≤ rm.rams
  pub order : (i : ℕ) → i < 2 * size n → event_of (get_or w (2 * size n + i) 0) ≡ event_at n i
  pub flags : Flags (size n) w (step1 n)

-- the table of outputs
pub record Listed (rm : Rooms) (os : List ℕ) (b : Build) : Type 0 where
  pub fits : length b.outs ≤ rm.outputs
  pub words : os ≡ filled b.outs rm.outputs

-- more is built than there is room for
pub data Over (rm : Rooms) (b : Build) : Type 0 where
  pins_over : rm.pins + 1 < length b.drivers → Over rm b
  outputs_over : rm.outputs < length b.outs → Over rm b
  dffs_over : rm.dffs < length b.flops → Over rm b
  rams_over : rm.rams < length b.rams → Over rm b

-- all of b is there; or there is no room for it
pub data Moved (n : Netlist) (rm : Rooms) (b : Build) (w ws os w' ws' os' : List ℕ) (r : Option Tally) : Type 0 where
  moved : (t' : Tally) → r ≡ Some t' → Drafting n rm w' ws' t' b → Listed rm os' b → length w' ≡ length w → Moved n rm b w ws os w' ws' os' r
  stuck : r ≡ None → Over rm b → length w' ≡ length w → length ws' ≡ length ws → length os' ≡ length os → Moved n rm b w ws os w' ws' os' r

-- event i is e, of pin p, and all before it is there
pub data Before (n : Netlist) (rm : Rooms) (w ws os : List ℕ) (t : Tally) (at i p : ℕ) (e : Event) : Type 0 where
  ready : Fits n → Accepted n → Drafting n rm w ws t (state_at n i) → Listed rm os (state_at n i) → at ≡ index_at (size n) rm.pins → i < length (events n) → event_at n i ≡ e → p < size n
      → Before n rm w ws os t at i p e

-- all before event i is there
pub data Visiting (n : Netlist) (rm : Rooms) (w ws os : List ℕ) (t : Tally) (at i : ℕ) : Type 0 where
  visiting : Fits n → Accepted n → length (events n) ≡ 2 * size n → Drafting n rm w ws t (state_at n i) → Listed rm os (state_at n i) → at ≡ index_at (size n) rm.pins
      → Visiting n rm w ws os t at i

-- ---- the same of a draft
abbrev pub IsBefore : Netlist → Rooms → Draft → List ℕ → ℕ → ℕ → Event → Type 0
IsBefore n rm d os i p e = Before n rm d.work.now d.drivers.now os d.tally d.at i p e

abbrev pub IsVisiting : Netlist → Rooms → Draft → List ℕ → ℕ → Type 0
IsVisiting n rm d os i = Visiting n rm d.work.now d.drivers.now os d.tally d.at i

pub record Moves (n : Netlist) (rm : Rooms) (b : Build) (d : Draft) (os : List ℕ) (d' : Draft) (os' : List ℕ) (r : Option (Unit {0})) : Type 0 where
  pub loans : SameLoans d d'
  pub moved : Moved n rm b d.work.now d.drivers.now os d'.work.now d'.drivers.now os' (counted r d'.tally)
