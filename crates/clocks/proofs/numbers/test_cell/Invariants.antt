use Rattle.rules.specs.Tables.{netlist_in}
use Rattle.roles.specs.Reading.{kind_at}
use Rattle.clocks.specs.Walks.{number_if}
use Rattle.clocks.proofs.Numbering.{Trying}
use Rattle.clocks.proofs.numbers.test_cell.Given as goal

abbrev pub invariant-loop-p : goal.invariant-loop-p
invariant-loop-p l = Trying (number_if (netlist_in l.n) (kind_at l.kind)) l.own l.p-index
