use Rattle.std.proofs.Common.{inl, inr}
use Rattle.texts.proofs.Bytes.{number_empty, number-leading, number_is}
use Rattle.texts.proofs.number.Goals as goal
use Rattle.texts.proofs.number.Goals.{else-s-gt1-via-then-s-gt1+else-s-eq48, else-s-gt1-via-else-s-gt1}

pub returns-then-is_empty : goal.returns-then-is_empty
returns-then-is_empty c = number_empty _ c.if-is_empty.ensures

pub returns-then-s-eq48 : goal.returns-then-s-eq48
returns-then-s-eq48 c = search number-leading

pub returns : goal.returns
returns c = number_is _ _ c.if-is_empty.ensures
    (elim c.else-s-gt1.branch [
      | else-s-gt1-via-then-s-gt1+else-s-eq48 w ↦ inr (w.if-s-gt1.true, w.if-s-eq48.false)
      | else-s-gt1-via-else-s-gt1 w ↦ inl w.if-s-gt1.false
    ])
    c.value_of.ensures
