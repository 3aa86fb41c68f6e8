use Rattle.walk.proofs.Handed.{Setting}
use Rattle.walk.proofs.given.set_stops.Given as goal

abbrev pub invariant-loop-p : goal.invariant-loop-p
invariant-loop-p l = Setting l.m l.handed l.initial.work l.p-index l.work l.repeats
