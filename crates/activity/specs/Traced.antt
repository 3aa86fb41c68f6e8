-- The state of building as step 3 goes on, and what is made when a clock pin is traced.
use Rattle.std.specs.Prelude.{◌≡◌, Option, Some, None, List, ℕ, ◌+◌, ◌*◌, ◌<◌, ◌≤◌, length, get_or}
use Rattle.laws.specs.Lists.{over}
use Rattle.rules.specs.declared.Driver.{Driver}
use Rattle.rules.specs.declared.Tally.{Tally}
use Rattle.rules.specs.Netlist.{Netlist, size}
use Rattle.rules.specs.Graph.{Made, and_of}
use Rattle.rules.specs.Tables.{edge_word}
use Rattle.rules.specs.Build.{walk, trace, step1, step2}
use Rattle.rules.specs.Refusals.{walk_number, Accepted}
use Rattle.builds.proofs.Growing.{Keeps}
use Rattle.builds.proofs.Sizes.{Flagged}
use Rattle.roles.specs.Reading.{Fits}
use Rattle.clocks.specs.Walks.{enables}
use Rattle.clocks.specs.declared.WalkEnd.{WalkEnd}
use Rattle.clocks.specs.declared.WalkEnd.TheVariants.{Still, Root, Strange, Far}
use Rattle.drafts.specs.declared.Draft.{Draft}
use Rattle.drafts.specs.Table.{Table, drafted}
use Rattle.drafts.specs.Layout.{Written, Flags}

-- the literals of step 2
abbrev pub lits : Netlist → ℕ → ℕ
lits n = (step2 n).lits

-- the netlist is accepted, steps 1 and 2 have written what they know into the work words below `at`
pub record Ground (n : Netlist) (at : ℕ) (w : List ℕ) : Type 0 where
  pub accepted : Accepted n
  pub fits : Fits n
  pub below : 8 * size n < at
  pub inside : at ≤ length w
  pub written : Written n w (step2 n)
  pub flags : Flags (size n) w (step1 n)

-- and the driver table holds the drivers of step 2, and more
pub record Going (n : Netlist) (at : ℕ) (w ws : List ℕ) (t : Tally) : Type 0 where
  pub grounded : Ground n at w
  pub table : Table at w ws t
  pub keeps : Keeps (step2 n).drivers (drafted ws t)

-- the same of a draft
abbrev pub IsGoing : Netlist → Draft → Type 0
IsGoing n d = Going n d.at d.work.now d.drivers.now d.tally

-- a pin whose walk ends at a constant net, or at a port whose flag is there
pub record Clocked (n : Netlist) (p : ℕ) : Type 0 where
  pub inside : p < size n
  pub found : walk_number (walk n p) ≡ 0
  pub flagged : Flagged (step1 n) (walk n p)

-- how many E pins the walk of a clock pin crosses; a record, so that no check computes the walk
pub record IsGateCount (n : Netlist) (p gates : ℕ) : Type 0 where
  pub is : gates ≡ length (enables (walk n p))

-- ---- where a walk ends: the flag's word, by port and edge, and its literal
abbrev pub end_lit : ℕ → List ℕ → WalkEnd → ℕ
end_lit m w Still = 0
end_lit m w (Root q e) = 2 * get_or w (4 * m + 2 * q + edge_word e) 0
end_lit m w Strange = 0
end_lit m w Far = 0

-- the word is one of them, and holds a pin
abbrev pub EndKnown : ℕ → List ℕ → WalkEnd → Type 0
EndKnown m w Still = Unit {0}
EndKnown m w (Root q e) = (q < m) × (get_or w (4 * m + 2 * q + edge_word e) 0 ≤ 16777215)
EndKnown m w Strange = Unit {0}
EndKnown m w Far = Unit {0}

-- ---- the CKLNQDs on the way, each an AND of the activity so far and its E
abbrev pub gates_over : (ℕ → ℕ) → Made → List ℕ → Made
gates_over l m es = over (λ k e. and_of k.drivers k.lit (l e)) m es

abbrev pub start_at : List Driver → ℕ → Made
start_at ds l = record { drivers = ds; lit = l }

-- ---- an entry of a cell's list of clocks; where there is none the activity is 0
abbrev pub entry_traced : Netlist → List Driver → Option ℕ → Made
entry_traced n ds (Some p) = trace ds (lits n) (walk n p)
entry_traced n ds None = start_at ds 0
