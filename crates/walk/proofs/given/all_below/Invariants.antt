use Rattle.walk.proofs.Handed.{Below}
use Rattle.walk.proofs.given.all_below.Given as goal

abbrev pub invariant-loop-x : goal.invariant-loop-x
invariant-loop-x l = Below l.m l.s l.x-index
