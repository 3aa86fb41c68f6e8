-- The AND step over a driver table: what it needs, and what it leaves.
use Rattle.std.specs.Prelude.{Option, None, Some, ◌≡◌, Bool, true, false, ◌&&◌, List, ℕ, zero, suc, ◌+◌, ◌-◌, ◌*◌, ◌/◌, ◌%◌, ◌<◌, ◌≤◌, length, get_or, set, if◌then◌else◌, ◌==◌}
use Rattle.laws.specs.Words.{SameBelow}
use Rattle.rules.specs.declared.Literal.{Literal}
use Rattle.rules.specs.declared.Driver.{Driver}
use Rattle.rules.specs.declared.Driver.TheVariants.{And, Port, Flag, Dff, Ram, Constant}
use Rattle.rules.specs.Graph.{literal, gate, driver_at, is_pair, Made, old_or_new, and_of}
use Rattle.rules.specs.Tables.{drivers_in}
use Rattle.rules.specs.Bounds.{max_graph_pins}
use Rattle.drivers.specs.Written.{Holds}
use Rattle.gates.specs.declared.Step.{Step}

-- the words of a pin are those of the gate (lo, hi)
abbrev pub is_pair_at : List ℕ → ℕ → ℕ → ℕ → Bool
is_pair_at ws p lo hi = (get_or ws (3 * p) 0 == 1) && (get_or ws (3 * p + 1) 0 == lo) && (get_or ws (3 * p + 2) 0 == hi)

-- ---- the index of known pairs
-- the bucket of a pair, and whether a driver is a gate in a bucket
unfoldable pub bucket_of : ℕ → ℕ → ℕ → ℕ
bucket_of rows lo hi = (lo * 663608969 + hi * 374762369) % (2 * rows + 1)

abbrev pub in_bucket : ℕ → ℕ → Driver → Bool
in_bucket rows h (And a b) = bucket_of rows a.word b.word == h
in_bucket rows h (Port q) = false
in_bucket rows h (Flag q e) = false
in_bucket rows h (Dff c) = false
in_bucket rows h (Ram c) = false
in_bucket rows h Constant = false

-- the highest gate below k in a bucket, 0 where there is none
abbrev pub top_below : List Driver → ℕ → ℕ → ℕ → ℕ
top_below ds rows zero h = 0
top_below ds rows (suc k) h = if in_bucket rows h (driver_at ds k) then k else top_below ds rows k h

abbrev pub rows_of : List ℕ → ℕ
rows_of ws = length ws / 3

-- gate p linked to what was the head of bucket h, and now its head
unfoldable pub chained : List ℕ → ℕ → ℕ → ℕ → ℕ → List ℕ
chained w at rows p h = set (set w (at + p) (get_or w (at + rows + h) 0)) (at + rows + h) p

-- the table holds the drivers of `pins` pins, and the work words from `at` on say where their pairs are. Callers carry it and cite its laws
-- alone
pub record Ready (at : ℕ) (w ws : List ℕ) (pins : ℕ) : Type 0 where
  pub held : Holds ws (drivers_in ws pins)
  pub long : 3 * pins + 3 ≤ length ws
  pub bounded : length ws ≤ 3 * (max_graph_pins + 1)
  pub wide : at + 2 * length ws ≤ length w
  pub first : driver_at (drivers_in ws pins) 0 ≡ Constant
  pub once : (u v lo hi : ℕ) → is_pair lo hi (driver_at (drivers_in ws pins) u) ≡ true → is_pair lo hi (driver_at (drivers_in ws pins) v) ≡ true → u ≡ v
  pub heads : (h : ℕ) → h < 2 * rows_of ws + 1 → get_or w (at + rows_of ws + h) 0 ≡ top_below (drivers_in ws pins) (rows_of ws) (pins + 1) h
  pub links : (g h : ℕ) → g ≤ pins → in_bucket (rows_of ws) h (driver_at (drivers_in ws pins) g) ≡ true → get_or w (at + g) 0 ≡ top_below (drivers_in ws pins) (rows_of ws) g h

-- a step's answer where there is room
abbrev pub got : Literal → ℕ → Option Step
got l pins = Some (record { lit = l; pins = pins })

-- what a step leaves, by what the rules make of the drivers: all of it, or where there is no room for it nothing
pub record Grown (at : ℕ) (m : Made) (w ws w' ws' : List ℕ) (r : Option Step) : Type 0 where
  pub room : 3 * length m.drivers ≤ length ws
  pub answer : r ≡ got (literal m.lit) (length m.drivers - 1)
  pub drivers : drivers_in ws' (length m.drivers - 1) ≡ m.drivers
  pub ready : Ready at w' ws' (length m.drivers - 1)
  pub same_length : length ws' ≡ length ws
  pub below : SameBelow at w w'

pub record Full (m : Made) (w ws w' ws' : List ℕ) (r : Option Step) : Type 0 where
  pub no_room : length ws < 3 * length m.drivers
  pub answer : r ≡ None
  pub table : ws' ≡ ws
  pub words : w' ≡ w

pub data Leaves (at : ℕ) (m : Made) (w ws w' ws' : List ℕ) (r : Option Step) : Type 0 where
  grown : Grown at m w ws w' ws' r → Leaves at m w ws w' ws' r
  full : Full m w ws w' ws' r → Leaves at m w ws w' ws' r

-- of an ordered pair, and of any two literals
abbrev pub Paired : ℕ → List ℕ → List ℕ → ℕ → ℕ → ℕ → List ℕ → List ℕ → Option Step → Type 0
Paired at w ws pins lo hi w' ws' r = Leaves at (old_or_new (is_pair lo hi) (gate lo hi) (drivers_in ws pins)) w ws w' ws' r

abbrev pub Stepped : ℕ → List ℕ → List ℕ → ℕ → ℕ → ℕ → List ℕ → List ℕ → Option Step → Type 0
Stepped at w ws pins a b w' ws' r = Leaves at (and_of (drivers_in ws pins) a b) w ws w' ws' r
