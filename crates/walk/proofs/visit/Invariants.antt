use Rattle.walk.proofs.Visits.{Visiting}
use Rattle.walk.specs.State.{left}
use Rattle.walk.proofs.visit.Given as goal

abbrev pub invariant-loop-at : goal.invariant-loop-at
invariant-loop-at l = Visiting l.drivers l.m l.initial.work l.count l.root l.work l.at.height l.at.count

abbrev pub decreases-loop-at : goal.decreases-loop-at
decreases-loop-at l = left l.m l.work l.at.height l.at.count
