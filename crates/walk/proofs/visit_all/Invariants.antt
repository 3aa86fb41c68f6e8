use Rattle.walk.proofs.Visits.{VisitingAll}
use Rattle.walk.proofs.visit_all.Given as goal

abbrev pub invariant-loop-root : goal.invariant-loop-root
invariant-loop-root l = VisitingAll l.drivers l.m l.roots l.initial.work l.count l.work l.k l.root-index
