use Rattle.answers.proofs.Lines.{Drivers}
use Rattle.answers.proofs.put_drivers.Given as goal

abbrev pub invariant-loop-i : goal.invariant-loop-i
invariant-loop-i l = Drivers l.initial.out l.at l.ds l.n l.out l.p l.i
