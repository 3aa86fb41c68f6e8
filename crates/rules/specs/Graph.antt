-- Document 01, "Graph and numbering", its first half: literals, drivers, records, the graph, and the AND of two literals.
use Rattle.std.specs.Prelude.{Option, None, Some, Bool, true, false, ◌&&◌, ◌||◌, List, [], ◌∷◌, ◌++◌, ℕ, suc, ◌+◌, ◌-◌, ◌*◌, ◌/◌, ◌%◌, min, max, length, get_or, if◌then◌else◌, ◌==◌}
use Rattle.laws.specs.Tests.{◌<?◌}
use Rattle.rules.specs.declared.Literal.{Literal}
use Rattle.rules.specs.declared.Driver.{Driver}
use Rattle.rules.specs.declared.Driver.TheVariants.{And, Port, Flag, Dff, Ram, Constant}
use Rattle.rules.specs.declared.Record.{Record}

-- ---- literals: twice the pin, and 1 more where inverted
abbrev pub literal : ℕ → Literal
literal l = record { word = l }

abbrev pub pin_of : ℕ → ℕ
pin_of l = l / 2

abbrev pub inverted : ℕ → Bool
inverted l = l % 2 == 1

abbrev pub opposite : ℕ → ℕ
opposite l = if l % 2 == 0 then l + 1 else l - 1

abbrev pub opposite_if : Bool → ℕ → ℕ
opposite_if true l = opposite l
opposite_if false l = l

-- the literal of a pin that has no logic bit; its opposite stands after an odd number of INVs
abbrev pub marker : ℕ
marker = 4294967295

-- ---- drivers
abbrev pub gate : ℕ → ℕ → Driver
gate a b = And (literal a) (literal b)

-- the driver of a pin
abbrev pub driver_at : List Driver → ℕ → Driver
driver_at ds u = get_or ds u Constant

-- the pins that a gate reads, in order
abbrev pub operands : Driver → List ℕ
operands (And a b) = pin_of a.word ∷ pin_of b.word ∷ []
operands (Port q) = []
operands (Flag q e) = []
operands (Dff c) = []
operands (Ram c) = []
operands Constant = []

-- ---- the graph
-- the rows of a RAM: read enable; 13 read address, 32 read data (pins, 0 absent), 13 write address, 32 write enable, 32 write data
pub record RamRow : Type 0 where
  pub read_enable : ℕ
  pub read_address : List ℕ
  pub read_data : List ℕ
  pub write_address : List ℕ
  pub write_enable : List ℕ
  pub write_data : List ℕ

pub record Graph : Type 0 where
  -- by pin, from pin 0
  pub drivers : List Driver
  -- the output literals
  pub outputs : List ℕ
  -- the flip-flop and RAM records, each in first-made order
  pub dffs : List Record
  pub rams : List RamRow

abbrev pub driver_of : Graph → ℕ → Driver
driver_of g u = driver_at g.drivers u

-- how many pins there are, pin 0 not counted
abbrev pub pin_count : Graph → ℕ
pin_count g = length g.drivers - 1

abbrev pub no_record : Record
no_record = record { next = 0; enable = 0; pin = 0 }

abbrev pub no_ram : RamRow
no_ram = record { read_enable = 0; read_address = []; read_data = []; write_address = []; write_enable = []; write_data = [] }

abbrev pub dff_at : Graph → ℕ → Record
dff_at g k = get_or g.dffs k no_record

abbrev pub ram_at : Graph → ℕ → RamRow
ram_at g k = get_or g.rams k no_ram

-- ---- the AND of two literals
-- the drivers after a step, and the literal that it gives
pub record Made : Type 0 where
  pub drivers : List Driver
  pub lit : ℕ

-- the first pin whose driver passes a test; the next new pin where none does
abbrev pub first_pin : (Driver → Bool) → List Driver → ℕ
first_pin t [] = 0
first_pin t (d ∷ ds) = if t d then 0 else suc (first_pin t ds)

-- an old pin whose driver passes the test, else a new one with driver d
abbrev pub old_or_new : (Driver → Bool) → Driver → List Driver → Made
old_or_new t d ds =
    record { drivers = if first_pin t ds <? length ds then ds else ds ++ (d ∷ []); lit = 2 * first_pin t ds }

-- a known pair
abbrev pub is_pair : ℕ → ℕ → Driver → Bool
is_pair a b (And x y) = (a == x.word) && (b == y.word)
is_pair a b (Port q) = false
is_pair a b (Flag q e) = false
is_pair a b (Dff c) = false
is_pair a b (Ram c) = false
is_pair a b Constant = false

-- what needs no gate: a 0 gives 0, else a 1 gives the other literal
abbrev pub short_cut : ℕ → ℕ → Option ℕ
short_cut a b = if (a == 0) || (b == 0) then Some 0 else (if a == 1 then Some b else (if b == 1 then Some a else None))

-- else the gate of the ordered pair, smaller first
abbrev pub and_by : List Driver → ℕ → ℕ → Option ℕ → Made
and_by ds a b (Some l) = record { drivers = ds; lit = l }
and_by ds a b None = old_or_new (is_pair (min a b) (max a b)) (gate (min a b) (max a b)) ds

unfoldable pub and_of : List Driver → ℕ → ℕ → Made
and_of ds a b = and_by ds a b (short_cut a b)

-- "v or not w": the opposite of the AND of v's opposite and w
abbrev pub or_not : List Driver → ℕ → ℕ → Made
or_not ds v w = record { drivers = (and_of ds (opposite v) w).drivers; lit = opposite (and_of ds (opposite v) w).lit }
