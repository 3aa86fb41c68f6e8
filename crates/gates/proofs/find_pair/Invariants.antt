use Rattle.gates.proofs.Find.{Searching}
use Rattle.gates.proofs.find_pair.Given as goal

abbrev pub invariant-loop-p : goal.invariant-loop-p
invariant-loop-p l = Searching l.drivers l.pins l.lo l.hi l.p

abbrev pub decreases-loop-p : goal.decreases-loop-p
decreases-loop-p l = l.p
