use Rattle.clears.proofs.Leaving.{LeavingTo}
use Rattle.clears.proofs.leave.Given as goal

abbrev pub invariant-loop-i : goal.invariant-loop-i
invariant-loop-i l = LeavingTo l.taken l.first l.count l.m l.ends l.left l.initial.work l.work l.n l.i
