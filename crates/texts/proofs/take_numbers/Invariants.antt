use Rattle.texts.proofs.Numbers.{Gathering}
use lib.ListN.{length}
use Prim.Native.Nat.{◌+◌, ◌-◌}
use Rattle.texts.proofs.take_numbers.Given as goal

abbrev pub invariant-loop-a : goal.invariant-loop-a
invariant-loop-a l = Gathering l.line l.at l.initial.out l.base l.out l.a l.count l.first

abbrev pub decreases-loop-a : goal.decreases-loop-a
decreases-loop-a l = length l.line + 1 - l.a
