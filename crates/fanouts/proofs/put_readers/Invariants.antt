use Rattle.fanouts.specs.Fans.{Placing}
use Rattle.fanouts.proofs.put_readers.Given as goal

abbrev pub invariant-loop-u : goal.invariant-loop-u
invariant-loop-u l = Placing l.drivers l.m l.starts l.lists l.u
