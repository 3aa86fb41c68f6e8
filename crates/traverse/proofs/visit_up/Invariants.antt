use Rattle.traverse.proofs.Runs.{VisitingUp}
use Prim.Native.Nat.{◌≤◌}
use Rattle.traverse.proofs.visit_up.Given as goal

abbrev pub invariant-loop-p : goal.invariant-loop-p
invariant-loop-p l = VisitingUp l.drivers l.m l.initial.work l.work l.k l.p × (l.p ≤ l.m)
