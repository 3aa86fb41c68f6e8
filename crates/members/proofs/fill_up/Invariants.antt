use Rattle.members.proofs.Loops.{FillingUp}
use Rattle.members.proofs.fill_up.Given as goal

abbrev pub invariant-loop-i : goal.invariant-loop-i
invariant-loop-i l = FillingUp l.initial.work l.a l.cap l.work l.n l.i
