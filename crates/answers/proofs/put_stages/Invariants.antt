use Rattle.answers.proofs.Lines.{Stages}
use Rattle.answers.proofs.put_stages.Given as goal

abbrev pub invariant-loop-i : goal.invariant-loop-i
invariant-loop-i l = Stages l.initial.out l.at l.rows l.handed l.taken l.n l.out l.p l.i l.h l.t
