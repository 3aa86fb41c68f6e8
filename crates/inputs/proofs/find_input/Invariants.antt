use Rattle.inputs.proofs.Search.{Seeking}
use Rattle.inputs.proofs.find_input.Given as goal

abbrev pub invariant-loop-j : goal.invariant-loop-j
invariant-loop-j l = Seeking l.ends.counts l.ends.outputs.now l.ends.dffs.now l.ends.rams.now l.e l.i l.n l.seen l.j
