use Rattle.clocks.proofs.Numbering.{Numbered}
use Rattle.clocks.proofs.numbers.test_clocks.Given as goal

abbrev pub invariant-loop-cell : goal.invariant-loop-cell
invariant-loop-cell l = Numbered l.n.kinds.now l.n.starts.now l.n.list.now l.n.pins.now l.n.nets.now l.cell
