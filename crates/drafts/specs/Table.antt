-- The driver table and the tallies of a graph in the making, and what a step leaves of them.
use Rattle.std.specs.Prelude.{◌≡◌, Option, Some, None, List, [], ◌∷◌, ◌++◌, ℕ, ◌*◌, ◌<◌, ◌≤◌, length, if◌then◌else◌, ◌==◌}
use Rattle.laws.specs.Words.{SameBelow}
use Rattle.rules.specs.declared.Driver.{Driver}
use Rattle.rules.specs.declared.Tally.{Tally}
use Rattle.rules.specs.declared.Literal.{Literal}
use Rattle.rules.specs.Graph.{Made, and_of, or_not, gate}
use Rattle.rules.specs.Build.{gate_count}
use Rattle.rules.specs.Tables.{drivers_in}
use Rattle.tallies.specs.Counted.{pin_counted}
use Rattle.gates.specs.Step.{Ready}
use Rattle.drafts.specs.declared.Added.{Added}
use Rattle.drafts.specs.declared.Draft.{Draft}

-- the drivers so far
abbrev pub drafted : List ℕ → Tally → List Driver
drafted ws t = drivers_in ws t.pins

pub record Table (at : ℕ) (w ws : List ℕ) (t : Tally) : Type 0 where
  pub ready : Ready at w ws t.pins
  pub gates : t.gates ≡ gate_count (drafted ws t)
  pub few : t.gates ≤ t.pins

-- what is made: a pin that is no gate; the AND of "v or not s" and r
abbrev pub pushed : List Driver → Driver → Made
pushed ds d = record { drivers = ds ++ (d ∷ []); lit = 2 * length ds }

abbrev pub set_reset : List Driver → ℕ → ℕ → ℕ → Made
set_reset ds v s r = and_of (or_not ds v s).drivers (or_not ds v s).lit r

-- one gate more where there is one pin more
abbrev pub gate_counted : Tally → ℕ → Tally
gate_counted t pins = if pins == t.pins then t else pin_counted (gate 0 0) t

-- what is counted besides pins and gates is as it was
pub record SameEnds (t t' : Tally) : Type 0 where
  pub outputs : t'.outputs ≡ t.outputs
  pub dffs : t'.dffs ≡ t.dffs
  pub rams : t'.rams ≡ t.rams

-- all of m is there, and the words before the index are as they were; or the table has no room for it
pub data Extends (at : ℕ) (m : Made) (w ws : List ℕ) (t : Tally) (w' ws' : List ℕ) (r : Option Added) : Type 0 where
  made : (a : Added) → r ≡ Some a → a.lit.word ≡ m.lit → Table at w' ws' a.tally → drafted ws' a.tally ≡ m.drivers → SameEnds t a.tally
      → SameBelow at w w' → length ws' ≡ length ws → Extends at m w ws t w' ws' r
  full : r ≡ None → length ws < 3 * length m.drivers → length w' ≡ length w → length ws' ≡ length ws → Extends at m w ws t w' ws' r

-- ---- the same of a draft
abbrev pub drivers_of : Draft → List Driver
drivers_of d = drafted d.drivers.now d.tally

abbrev pub Open : Draft → Type 0
Open d = Table d.at d.work.now d.drivers.now d.tally

-- what a step answers, with the tallies that the draft has after it
abbrev pub added : Option Literal → Tally → Option Added
added (Some l) t = Some (record { lit = l; tally = t })
added None t = None

abbrev pub counted : Option (Unit {0}) → Tally → Option Tally
counted (Some u) t = Some t
counted None t = None

-- the draft goes on with the tables that it was lent, and with its place in the work words
pub record SameLoans (d d' : Draft) : Type 0 where
  pub drivers : d'.drivers.ghost_name ≡ d.drivers.ghost_name
  pub work : d'.work.ghost_name ≡ d.work.ghost_name
  pub place : d'.at ≡ d.at

-- the drivers are those of m now; or the driver table has no room for them
pub record Adds (m : Made) (d d' : Draft) (r : Option Literal) : Type 0 where
  pub loans : SameLoans d d'
  pub extends : Extends d.at m d.work.now d.drivers.now d.tally d'.work.now d'.drivers.now (added r d'.tally)
