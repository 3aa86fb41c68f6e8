use Rattle.picks.specs.Tables.{free_test}
use Rattle.picks.proofs.Pushes.{PartTo}
use Prim.Native.Nat.{◌*◌}
use Rattle.picks.proofs.hand_on.Given as goal

abbrev pub invariant-loop-i : goal.invariant-loop-i
invariant-loop-i l = PartTo (free_test l.m l.work) l.work (6 * l.m) l.size l.initial.handed l.first l.handed l.n l.i
