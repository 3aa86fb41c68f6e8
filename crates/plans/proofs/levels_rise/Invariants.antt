use Rattle.plans.proofs.Levels.{RisingTo}
use Rattle.plans.proofs.levels_rise.Given as goal

abbrev pub invariant-loop-i : goal.invariant-loop-i
invariant-loop-i l = RisingTo l.splits l.i
