use Rattle.inputs.proofs.Places.{stage_many, stage_short, stage-lent, stage-none, stage_input}
use borrow.Author.Tests.{not-true, not-false}
use Rattle.inputs.proofs.staged_input.Goals as goal

pub returns-then-not-stage_within : goal.returns-then-not-stage_within
returns-then-not-stage_within c = search (stage_many, not-true)

pub returns-then-not-ends_long : goal.returns-then-not-ends_long
returns-then-not-ends_long c = search (stage_short, not-true, not-false)

pub place_input-p-requires : goal.place_input-p-requires
place_input-p-requires c = let a = c.args in stage-lent a.ends.counts a.ends.outputs.now a.ends.dffs.now a.ends.rams.now a.handed.now a.taken.now a.k a.i _ c.stage_within.ensures c.if-not-stage_within.false _ c.ends_long.ensures c.if-not-ends_long.false

pub returns-then-p-eq0 : goal.returns-then-p-eq0
returns-then-p-eq0 c = search (stage-none, not-false)

pub returns : goal.returns
returns c = search (stage_input, not-false)
