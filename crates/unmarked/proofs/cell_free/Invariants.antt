use Rattle.rules.specs.Tables.{netlist_in}
use Rattle.roles.specs.Reading.{kind_at}
use Rattle.unmarked.specs.Free.{free_if}
use Rattle.unmarked.proofs.Freeing.{Passed}
use Rattle.unmarked.proofs.cell_free.Given as goal

abbrev pub invariant-loop-p : goal.invariant-loop-p
invariant-loop-p l = Passed (free_if (netlist_in l.n) (kind_at l.kind)) l.own l.p-index
