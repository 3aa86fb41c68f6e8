-- Step 1 over the driver table and the work words: the flags that are there, and what is left of them when more are made.
use Rattle.std.specs.Prelude.{◌≡◌, Option, Some, None, List, [], ◌∷◌, ℕ, ◌*◌, ◌<◌, ◌≤◌, length, get_or, if◌then◌else◌, ◌+◌}
use Rattle.laws.specs.Lists.{over}
use Rattle.rules.specs.declared.Edge.{Edge}
use Rattle.rules.specs.declared.Driver.{Driver}
use Rattle.rules.specs.declared.Driver.TheVariants.{Constant}
use Rattle.rules.specs.declared.Tally.{Tally}
use Rattle.rules.specs.Netlist.{Netlist, Kind, name_of}
use Rattle.rules.specs.Graph.{driver_at}
use Rattle.rules.specs.Build.{is_clock, clocks_of, walk, flag_for, flag_of}
use Rattle.clocks.specs.declared.WalkEnd.{WalkEnd}
use Rattle.clocks.specs.declared.WalkEnd.TheVariants.{Still, Root, Strange, Far}
use Rattle.drafts.specs.declared.Draft.{Draft}
use Rattle.drafts.specs.Table.{Table, drafted, SameEnds, counted, SameLoans}
use Rattle.drafts.specs.Layout.{Flags}

-- ---- step 1, as the code takes it
abbrev pub flag_at : List Driver → WalkEnd → List Driver
flag_at ds Still = ds
flag_at ds (Root q e) = (flag_for ds q e).drivers
flag_at ds Strange = ds
flag_at ds Far = ds

-- of a pin of a cell of this kind, where it is a clock; of a cell
unfoldable pub flag_if : Netlist → Kind → List Driver → ℕ → List Driver
flag_if n k ds p = if is_clock k (name_of n p) then flag_of ds (walk n p) else ds

unfoldable pub flags_of : Netlist → List Driver → ℕ → List Driver
flags_of n ds c = over (λ es p. flag_of es (walk n p)) ds (clocks_of n c)

-- a walk that ends at a port ends at one of the m pins
pub record PortWithin (m : ℕ) (end : WalkEnd) : Type 0 where
  pub below : (q : ℕ) (e : Edge) → end ≡ Root q e → q < m

-- n entries from a place on, each one of the pins
pub record Span (list : List ℕ) (at n : ℕ) : Type 0 where
  pub fits : at + n ≤ length list
  pub below : (j : ℕ) → j < n → get_or list (at + j) 0 < length list

-- ---- the state
pub record Flagging (m at : ℕ) (w ws : List ℕ) (t : Tally) : Type 0 where
  pub table : Table at w ws t
  pub first : driver_at (drafted ws t) 0 ≡ Constant
  pub flags : Flags m w (drafted ws t)
  pub small : m ≤ 1048576
  pub inside : 6 * m ≤ at

-- the words of the flags alone may have changed
pub record FlagsOnly (m at : ℕ) (w w' : List ℕ) : Type 0 where
  pub long : length w' ≡ length w
  pub before : (j : ℕ) → j < 4 * m → get_or w' j 0 ≡ get_or w j 0
  pub after : (j : ℕ) → 6 * m ≤ j → j < at → get_or w' j 0 ≡ get_or w j 0

-- the drivers are these now; or the table has no room for them
pub data Flagged (m at : ℕ) (ds : List Driver) (w ws : List ℕ) (t : Tally) (w' ws' : List ℕ) (r : Option Tally) : Type 0 where
  made : (t' : Tally) → r ≡ Some t' → Flagging m at w' ws' t' → drafted ws' t' ≡ ds → SameEnds t t' → FlagsOnly m at w w'
      → length ws' ≡ length ws → Flagged m at ds w ws t w' ws' r
  full : r ≡ None → length ws < 3 * length ds → length w' ≡ length w → length ws' ≡ length ws → Flagged m at ds w ws t w' ws' r

-- only pin 0 is there, and no flag
pub record Blank (m at : ℕ) (w ws : List ℕ) (t : Tally) : Type 0 where
  pub table : Table at w ws t
  pub alone : drafted ws t ≡ Constant ∷ []
  pub clear : (j : ℕ) → 4 * m ≤ j → j < 6 * m → get_or w j 0 ≡ 0
  pub small : m ≤ 1048576
  pub inside : 6 * m ≤ at

-- ---- the same of a draft
abbrev pub IsFlagging : ℕ → Draft → Type 0
IsFlagging m d = Flagging m d.at d.work.now d.drivers.now d.tally

abbrev pub IsBlank : ℕ → Draft → Type 0
IsBlank m d = Blank m d.at d.work.now d.drivers.now d.tally

pub record AddsFlags (m : ℕ) (ds : List Driver) (d d' : Draft) (r : Option (Unit {0})) : Type 0 where
  pub loans : SameLoans d d'
  pub flagged : Flagged m d.at ds d.work.now d.drivers.now d.tally d'.work.now d'.drivers.now (counted r d'.tally)
