use Rattle.levels.proofs.Gathers.{VisitingLeft}
use Rattle.levels.proofs.visit_left.Given as goal

abbrev pub invariant-loop-i : goal.invariant-loop-i
invariant-loop-i l = VisitingLeft l.g.ends.counts l.g.drivers.now l.g.ends.outputs.now l.g.ends.dffs.now l.g.ends.rams.now l.m l.n l.initial.work l.work l.k l.i
