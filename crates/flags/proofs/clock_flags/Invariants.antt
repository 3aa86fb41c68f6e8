use Rattle.flags.proofs.Passing.{PassingCells}
use Rattle.flags.proofs.clock_flags.Given as goal

abbrev pub invariant-loop-cell : goal.invariant-loop-cell
invariant-loop-cell l = PassingCells l.n.kinds.now l.n.starts.now l.n.list.now l.n.pins.now l.n.nets.now l.initial.draft l.draft l.cell
