use Rattle.answers.proofs.Placing.{Digits}
use Rattle.answers.proofs.put_number.Given as goal

abbrev pub invariant-loop : goal.invariant-loop
invariant-loop l = Digits l.initial.out l.at l.n l.out l.a l.p l.counter
