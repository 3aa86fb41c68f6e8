use Rattle.subsets.proofs.Places.{Picked}
use Rattle.subsets.proofs.pick.Given as goal

abbrev pub invariant-loop-j : goal.invariant-loop-j
invariant-loop-j l = Picked l.table l.is l.a l.n l.h l.initial.to l.to l.j
