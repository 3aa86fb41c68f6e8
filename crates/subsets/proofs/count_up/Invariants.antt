use Rattle.subsets.proofs.Full.{CountingUp}
use Rattle.subsets.proofs.count_up.Given as goal

abbrev pub invariant-loop-i : goal.invariant-loop-i
invariant-loop-i l = CountingUp l.initial.to l.to l.n l.i
