use Rattle.picks.proofs.Lows.{LowTo}
use Rattle.picks.proofs.inputs_low.Given as goal

abbrev pub invariant-loop-i : goal.invariant-loop-i
invariant-loop-i l = LowTo l.ends.counts l.ends.outputs.now l.ends.dffs.now l.ends.rams.now l.m l.work l.d l.e l.n l.i
