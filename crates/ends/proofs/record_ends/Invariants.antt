use Rattle.rules.specs.Tables.{netlist_in}
use lib.ListN.{length}
use mathlib.Core.Path.{◌≡◌}
use Rattle.ends.proofs.Ending.{Ending}
use Rattle.ends.proofs.record_ends.Given as goal

abbrev pub invariant-loop-cell : goal.invariant-loop-cell
invariant-loop-cell l = Ending (netlist_in l.n) l.initial.draft l.initial.dffs l.initial.rams l.draft l.dffs l.rams l.cell × (length l.dffs ≡ length l.initial.dffs) × (length l.rams ≡ length l.initial.rams)
