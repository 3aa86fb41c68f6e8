use Rattle.stages.proofs.Runs.{level-none, level_some, level_asks}
use Rattle.stages.proofs.level_at.Goals as goal

pub returns-then-splits-i : goal.returns-then-splits-i
returns-then-splits-i c = search level-none

pub overflow_sub-d : goal.overflow_sub-d
overflow_sub-d c = search level_asks

pub returns : goal.returns
returns c = search level_some
