use Rattle.picks.specs.Tables.{take_test}
use Rattle.picks.proofs.Pushes.{PartTo}
use Prim.Native.Nat.{◌*◌}
use Rattle.picks.proofs.take_all.Given as goal

abbrev pub invariant-loop-i : goal.invariant-loop-i
invariant-loop-i l = PartTo (take_test l.ends.counts l.ends.outputs.now l.ends.dffs.now l.ends.rams.now l.m l.work l.d) l.work (8 * l.m) l.left l.initial.taken l.first l.taken l.n l.i
