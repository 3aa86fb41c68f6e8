use Rattle.answers.proofs.Placing.{Fields}
use Rattle.answers.proofs.put_fields.Given as goal

abbrev pub invariant-loop-n : goal.invariant-loop-n
invariant-loop-n l = Fields l.initial.out l.at l.ns l.out l.a l.n-index
