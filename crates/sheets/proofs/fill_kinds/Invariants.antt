use Rattle.sheets.proofs.Filling.{Kinds}
use Rattle.sheets.proofs.fill_kinds.Given as goal

abbrev pub invariant-loop-i : goal.invariant-loop-i
invariant-loop-i l = Kinds l.ns l.ss l.n l.initial.out l.out l.i
