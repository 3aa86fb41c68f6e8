use Rattle.levels.proofs.Gathers.{VisitingIns}
use Rattle.levels.proofs.visit_inputs.Given as goal

abbrev pub invariant-loop-i : goal.invariant-loop-i
invariant-loop-i l = VisitingIns l.g.ends.counts l.g.drivers.now l.g.ends.outputs.now l.g.ends.dffs.now l.g.ends.rams.now l.m l.e l.n l.initial.work l.count l.work l.k l.i
