use Rattle.unmarked.specs.Free.{cell_free}
use Rattle.rules.specs.Tables.{netlist_in}
use lib.ListN.{length}
use Rattle.laws.proofs.Scans.{Scanned}
use Rattle.unmarked.proofs.markers_free.Given as goal

abbrev pub invariant-loop-cell : goal.invariant-loop-cell
invariant-loop-cell l = Scanned (cell_free (netlist_in l.n)) (length l.n.kinds.now) l.cell
