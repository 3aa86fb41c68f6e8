use Rattle.rules.specs.Tables.{netlist_in}
use lib.ListN.{length}
use mathlib.Core.Path.{◌≡◌}
use Rattle.markers.proofs.Marking.{Marking}
use Rattle.markers.proofs.mark_all.Given as goal

abbrev pub invariant-loop-i : goal.invariant-loop-i
invariant-loop-i l = Marking (netlist_in l.n) l.initial.work l.work l.i × (length l.work ≡ length l.initial.work)
