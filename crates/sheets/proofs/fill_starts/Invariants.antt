use Rattle.sheets.proofs.Filling.{Starts}
use Rattle.sheets.proofs.fill_starts.Given as goal

abbrev pub invariant-loop-i : goal.invariant-loop-i
invariant-loop-i l = Starts l.ss l.n l.initial.out l.out l.i
