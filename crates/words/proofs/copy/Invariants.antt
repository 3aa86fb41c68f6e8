use Prim.Native.Nat.{◌≤◌}
use lib.ListN.{length}
use mathlib.Core.Path.{◌≡◌}
use Rattle.words.proofs.Tables.{Copying}
use Rattle.words.proofs.copy.Given as goal

abbrev pub invariant-loop-i : goal.invariant-loop-i
invariant-loop-i l = Copying l.from l.a l.initial.to l.at l.i l.to × (l.i ≤ l.n) × (length l.to ≡ length l.initial.to)
