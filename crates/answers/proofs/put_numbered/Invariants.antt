use Rattle.answers.proofs.Lines.{Numbered}
use Rattle.answers.proofs.put_numbered.Given as goal

abbrev pub invariant-loop-i : goal.invariant-loop-i
invariant-loop-i l = Numbered l.initial.out l.at l.label l.ns l.n l.out l.a l.i
