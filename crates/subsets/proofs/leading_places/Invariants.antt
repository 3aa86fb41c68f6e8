use Rattle.subsets.proofs.Places.{Leading}
use Rattle.subsets.proofs.leading_places.Given as goal

abbrev pub invariant-loop-i : goal.invariant-loop-i
invariant-loop-i l = Leading l.h l.is l.i
