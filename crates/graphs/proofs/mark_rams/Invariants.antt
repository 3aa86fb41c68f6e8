use Rattle.graphs.proofs.Rams.{present}
use Rattle.graphs.specs.Parts.{read_word}
use Rattle.marks.proofs.Picking.{Picking}
use Prim.Native.Nat.{◌*◌}
use Rattle.graphs.proofs.mark_rams.Given as goal

abbrev pub invariant-loop-i : goal.invariant-loop-i
invariant-loop-i l = Picking (read_word l.rams) present (32 * l.n) l.initial.work l.work l.base l.limit l.i
