use Rattle.fanouts.proofs.Counts.{Counting}
use Rattle.fanouts.proofs.count_readers.Given as goal

abbrev pub invariant-loop-u : goal.invariant-loop-u
invariant-loop-u l = Counting l.drivers l.initial.starts l.u l.starts
