use Rattle.marks.proofs.Picking.{Picking, always}
use lib.ListN.{length, get_or}
use Prim.Native.Nat.{ℕ}
use Rattle.marks.proofs.mark_list.Given as goal

abbrev pub invariant-loop-p : goal.invariant-loop-p
invariant-loop-p l = Picking (λ (k : ℕ). get_or l.list k 0) always (length l.list) l.initial.work l.work l.base l.limit l.p-index
