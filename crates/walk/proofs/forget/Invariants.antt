use Rattle.walk.proofs.Forgets.{Forgetting}
use Rattle.walk.proofs.forget.Given as goal

abbrev pub invariant-loop-i : goal.invariant-loop-i
invariant-loop-i l = Forgetting l.m l.initial.work l.i l.work
