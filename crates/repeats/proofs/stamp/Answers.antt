use Rattle.repeats.specs.Alike.{of_top, again, new}
use Rattle.repeats.proofs.stamp.Goals as goal

pub returns-then-cell-eq0 : goal.returns-then-cell-eq0
returns-then-cell-eq0 c = search of_top

pub returns-then-work-at : goal.returns-then-work-at
returns-then-work-at c = search again

pub returns : goal.returns
returns c = search new
