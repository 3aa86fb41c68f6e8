use mathlib.Core.Path.{sym}
use Rattle.texts.proofs.Lines.{line_no_word, line_early, line_placed, sort_before, sort_behind}
use lib.Seq.{length-take-le}
use Rattle.texts.proofs.line.Goals as goal

pub slice_bounds-sort_of-end : goal.slice_bounds-sort_of-end
slice_bounds-sort_of-end c = sym (length-take-le _ _ c.until-e.ensures.inside)

pub returns-in_default : goal.returns-in_default
returns-in_default c = line_no_word _ _ c.until-e.ensures _ _ _ c.in_default.ensures _ c.broken.ensures

pub returns-then-lt : goal.returns-then-lt
returns-then-lt c = line_early _ _ c.until-e.ensures _ _ _ _ c.in-Some.ensures (sort_before _ _ c.if-lt.ensures) _ c.broken-then-lt.ensures

pub returns : goal.returns
returns c = line_placed _ _ c.until-e.ensures _ _ _ _ c.in-Some.ensures _ _ _ (sort_behind _ _ c.if-lt.ensures) c.placed.ensures
