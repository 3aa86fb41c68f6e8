use Rattle.levels.proofs.Ranked.{LevelsTo}
use Rattle.levels.proofs.level_all.Given as goal

abbrev pub invariant-loop-i : goal.invariant-loop-i
invariant-loop-i l = LevelsTo l.drivers l.m l.initial.work l.k l.work l.i
