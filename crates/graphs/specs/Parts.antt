-- The parts of refusal 12 as the code reads them off the words.
use Rattle.std.specs.Prelude.{◌≡◌, Bool, true, ◌&&◌, List, map, ℕ, ◌+◌, ◌-◌, ◌*◌, ◌/◌, ◌%◌, ◌≤◌, length, get_or, ◌==◌}
use Rattle.laws.specs.Tests.{◌<?◌, ◌≤?◌, same, one}
use Rattle.laws.specs.Lists.{count, every, keep, upto}
use Rattle.rules.specs.declared.Driver.{Driver}
use Rattle.rules.specs.Graph.{pin_of, driver_at}
use Rattle.rules.specs.declared.GraphCounts.{GraphCounts}
use Rattle.rules.specs.declared.GraphTables.{GraphTables}
use Rattle.rules.specs.declared.EndTables.{EndTables}
use Rattle.rules.specs.Tables.{drivers_in, GraphWords}
use Rattle.rules.specs.Refusals.{is_dff, is_ram, below, no_repeat}
use Rattle.marks.specs.Marking.{Marked}

-- the pins of n flip-flop records
abbrev pub dff_pins_in : List ℕ → ℕ → List ℕ
dff_pins_in ws n = map (λ k. get_or ws (3 * k + 2) 0) (upto n)

-- word i of all read data
abbrev pub read_word : List ℕ → ℕ → ℕ
read_word ws i = get_or ws (123 * (i / 32) + 14 + i % 32) 0

-- the read-data pins of n RAM records
abbrev pub ram_pins_in : List ℕ → ℕ → List ℕ
ram_pins_in ws n = keep (λ p. 0 <? p) (map (read_word ws) (upto (32 * n)))

-- what marking a read-data pin leaves
pub data Presented (w : List ℕ) (base limit p : ℕ) (w' : List ℕ) (r : Bool) : Type 0 where
  absent : p ≡ 0 → w' ≡ w → r ≡ true → Presented w base limit p w' r
  there : (p ≡ 0 → ⊥) → Marked w base limit p w' r → Presented w base limit p w' r

abbrev pub mark_matches : List ℕ → List ℕ → ℕ → ℕ → ℕ → Bool
mark_matches ds w base tag u = same (get_or w (base + u) 0 == 1) (get_or ds (3 * u) 0 == tag)

abbrev pub marks_match : List ℕ → List ℕ → ℕ → ℕ → ℕ → Bool
marks_match ds w base m tag = every (mark_matches ds w base tag) (upto m)

abbrev pub pins_fit : List ℕ → ℕ → ℕ → ℕ → Bool
pins_fit ws «from» n pins = every (λ i. pin_of (get_or ws («from» + i) 0) ≤? pins) (upto n)

abbrev pub dff_literals_fit : List ℕ → ℕ → ℕ → Bool
dff_literals_fit ws n pins = every (λ k. pins_fit ws (3 * k) 2 pins) (upto n)

abbrev pub ram_row_fits : List ℕ → ℕ → ℕ → Bool
ram_row_fits ws at pins = pins_fit ws at 14 pins && pins_fit ws (at + 46) 77 pins

abbrev pub ram_literals_fit : List ℕ → ℕ → ℕ → Bool
ram_literals_fit ws n pins = every (λ k. ram_row_fits ws (123 * k) pins) (upto n)

-- the pins of records are one for one those whose drivers pass a test
abbrev pub pins_match : (Driver → Bool) → List ℕ → List Driver → Bool
pins_match t ps ds =
    every (λ p. p ≤? length ds - 1) ps && every (λ u. count u ps == one (t (driver_at ds u))) (upto (length ds - 1 + 1))

-- what comparing them leaves: the answer, and where it is yes every word past the marks as it was
pub record Compared (ok : Bool) (w : List ℕ) (base m : ℕ) (w' : List ℕ) (r : Bool) : Type 0 where
  pub answer : r ≡ ok
  pub same_length : length w' ≡ length w
  pub kept : r ≡ true → (j : ℕ) → base + m ≤ j → get_or w' j 0 ≡ get_or w j 0

-- tables long enough for their records
pub record Rows (drivers dffs : List ℕ) (flops : ℕ) (rams : List ℕ) (memories pins : ℕ) : Type 0 where
  pub drivers_long_lem : 3 * (pins + 1) ≤ length drivers
  pub dffs_long : 3 * flops ≤ length dffs
  pub rams_long : 123 * memories ≤ length rams
  pub memories_few : memories ≤ 1048576

-- the three parts of 12 past the drivers: pins of records, output literals, other literals
abbrev pub pins_ok : List ℕ → List ℕ → ℕ → List ℕ → ℕ → ℕ → Bool
pins_ok drivers dffs flops rams memories pins =
    pins_match is_dff (dff_pins_in dffs flops) (drivers_in drivers pins) && pins_match is_ram (ram_pins_in rams memories) (drivers_in drivers pins)

abbrev pub outputs_ok : List ℕ → ℕ → Bool
outputs_ok outputs pins = below (2 * (pins + 1)) outputs && no_repeat outputs

abbrev pub literals_ok : List ℕ → List ℕ → ℕ → List ℕ → ℕ → ℕ → Bool
literals_ok outputs dffs flops rams memories pins = outputs_ok outputs pins && (dff_literals_fit dffs flops pins && ram_literals_fit rams memories pins)

abbrev pub records_ok : List ℕ → List ℕ → List ℕ → ℕ → List ℕ → ℕ → ℕ → Bool
records_ok drivers outputs dffs flops rams memories pins = pins_ok drivers dffs flops rams memories pins && literals_ok outputs dffs flops rams memories pins

-- the same of a lent graph
abbrev pub RowsIn : GraphTables → Type 0
RowsIn g = Rows g.drivers.now g.ends.dffs.now g.ends.counts.dffs g.ends.rams.now g.ends.counts.rams g.ends.counts.pins

abbrev pub dffs_match : GraphTables → Bool
dffs_match g = pins_match is_dff (dff_pins_in g.ends.dffs.now g.ends.counts.dffs) (drivers_in g.drivers.now g.ends.counts.pins)

abbrev pub rams_match : GraphTables → Bool
rams_match g = pins_match is_ram (ram_pins_in g.ends.rams.now g.ends.counts.rams) (drivers_in g.drivers.now g.ends.counts.pins)

abbrev pub pins_match_in : GraphTables → Bool
pins_match_in g = pins_ok g.drivers.now g.ends.dffs.now g.ends.counts.dffs g.ends.rams.now g.ends.counts.rams g.ends.counts.pins

abbrev pub literals_fit_in : EndTables → Bool
literals_fit_in e = literals_ok e.outputs.now e.dffs.now e.counts.dffs e.rams.now e.counts.rams e.counts.pins

abbrev pub records_fit_in : GraphTables → Bool
records_fit_in g = pins_match_in g && literals_fit_in g.ends

abbrev pub lent : List ℕ → List ℕ → List ℕ → List ℕ → GraphWords
lent drivers outputs dffs rams = record { drivers = drivers; outputs = outputs; dffs = dffs; rams = rams }

-- what passes 1 and 2, with work words that are 0
pub record Fitting (c : GraphCounts) (drivers outputs dffs rams w : List ℕ) : Type 0 where
  pub drivers_long_lem : length drivers ≡ 3 * (c.pins + 1)
  pub dffs_long : length dffs ≡ 3 * c.dffs
  pub rams_long : length rams ≡ 123 * c.rams
  pub rams_few : c.rams ≤ 1048576
  pub work_long_lem : 12 * c.pins + 64 ≤ length w
  pub zero : (j : ℕ) → get_or w j 0 ≡ 0

abbrev pub FittingIn : GraphTables → List ℕ → Type 0
FittingIn g w = Fitting g.ends.counts g.drivers.now g.ends.outputs.now g.ends.dffs.now g.ends.rams.now w
