use Rattle.sheets.proofs.Filling.{Lists}
use Rattle.sheets.proofs.fill_list.Given as goal

abbrev pub invariant-loop-i : goal.invariant-loop-i
invariant-loop-i l = Lists l.ns l.ss l.n l.initial.out l.out l.i l.p
