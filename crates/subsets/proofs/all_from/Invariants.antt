use Rattle.subsets.proofs.Places.{FromOn}
use Rattle.subsets.proofs.all_from.Given as goal

abbrev pub invariant-loop-i : goal.invariant-loop-i
invariant-loop-i l = FromOn l.h l.is l.a l.i
