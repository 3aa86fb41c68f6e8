use Rattle.joins.proofs.Joins.{JoiningTo}
use Rattle.joins.proofs.join_all.Given as goal

abbrev pub invariant-loop-i : goal.invariant-loop-i
invariant-loop-i l = JoiningTo l.drivers l.m l.d l.initial.work l.k l.work l.n l.i
