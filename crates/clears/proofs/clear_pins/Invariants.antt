use Rattle.clears.proofs.Clearing.{ClearingTo}
use Rattle.clears.proofs.clear_pins.Given as goal

abbrev pub invariant-loop-i : goal.invariant-loop-i
invariant-loop-i l = ClearingTo l.m l.initial.work l.k l.work l.i
