use Rattle.members.proofs.Loops.{Inserting}
use Rattle.members.proofs.insert_all.Given as goal

abbrev pub invariant-loop-x : goal.invariant-loop-x
invariant-loop-x l = Inserting l.list l.initial.work l.a l.cap l.work l.n l.x-index
