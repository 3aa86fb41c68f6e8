use Rattle.fanouts.proofs.Sums.{Summing}
use Rattle.fanouts.proofs.sum_up.Given as goal

abbrev pub invariant-loop-i : goal.invariant-loop-i
invariant-loop-i l = Summing l.initial.starts l.i l.sum l.starts
