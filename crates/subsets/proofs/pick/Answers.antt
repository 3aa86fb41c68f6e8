use Rattle.subsets.proofs.Places.{pick_begins, pick_least, pick_inside, pick_goes_on, pick_ends}
use Rattle.subsets.proofs.pick.Goals as goal

pub loop-j-init : goal.loop-j-init
loop-j-init c = search pick_begins

pub overflow_sub-i : goal.overflow_sub-i
overflow_sub-i c = search pick_least

pub word-requires : goal.word-requires
word-requires c = search pick_inside

pub loop-j-preserved : goal.loop-j-preserved
loop-j-preserved c = search pick_goes_on

pub returns : goal.returns
returns c = search pick_ends
