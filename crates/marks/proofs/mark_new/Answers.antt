use mathlib.Core.Path.{refl}
use Rattle.marks.specs.Marking.{joined, outside, repeated}
use Rattle.marks.proofs.mark_new.Goals as goal
use Rattle.marks.proofs.mark_new.Goals.{then-limit-i-via-then-limit-i, then-limit-i-via-else-limit-i+then-work-base-ne0}

pub returns-then-limit-i : goal.returns-then-limit-i
returns-then-limit-i c = elim c.then-limit-i.branch [
  | then-limit-i-via-then-limit-i w ↦ outside w.if-limit-i.true refl refl
  | then-limit-i-via-else-limit-i+then-work-base-ne0 w ↦ repeated w.if-limit-i.false w.if-work-base-ne0.true refl refl
]

pub returns : goal.returns
returns c = search joined
