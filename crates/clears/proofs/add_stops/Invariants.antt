use Rattle.clears.proofs.Leaving.{StoppingTo}
use Rattle.clears.proofs.add_stops.Given as goal

abbrev pub invariant-loop-i : goal.invariant-loop-i
invariant-loop-i l = StoppingTo l.handed l.first l.count l.m l.initial.work l.work l.i
