use Rattle.sheets.proofs.Filling.{Copying}
use Rattle.sheets.proofs.copy_words.Given as goal

abbrev pub invariant-loop-i : goal.invariant-loop-i
invariant-loop-i l = Copying l.ns l.a l.k l.initial.out l.at l.out l.i
