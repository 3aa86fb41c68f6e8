use Rattle.answers.proofs.Placing.{Bytes}
use Rattle.answers.proofs.put_bytes.Given as goal

abbrev pub invariant-loop-b : goal.invariant-loop-b
invariant-loop-b l = Bytes l.initial.out l.at l.w l.out l.a l.b-index
