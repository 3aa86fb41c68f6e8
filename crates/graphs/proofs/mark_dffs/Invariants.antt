use Rattle.marks.proofs.Picking.{Picking, always}
use lib.ListN.{get_or}
use Prim.Native.Nat.{ℕ, ◌*◌, ◌+◌}
use Rattle.graphs.proofs.mark_dffs.Given as goal

abbrev pub invariant-loop-k : goal.invariant-loop-k
invariant-loop-k l = Picking (λ (j : ℕ). get_or l.dffs (3 * j + 2) 0) always l.n l.initial.work l.work l.base l.limit l.k
