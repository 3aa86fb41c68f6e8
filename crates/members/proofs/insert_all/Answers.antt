use Rattle.laws.proofs.Words.{word_below}
use Rattle.members.proofs.Loops.{insert_begins, insert_goes_on, insert_ends}
use Rattle.members.proofs.insert_all.Goals as goal

pub loop-x-init : goal.loop-x-init
loop-x-init c = search insert_begins

pub insert-n-requires : goal.insert-n-requires
insert-n-requires c = record { set_in = search; x_lt_cap = search word_below }

pub loop-x-preserved : goal.loop-x-preserved
loop-x-preserved c = search insert_goes_on

pub returns : goal.returns
returns c = search insert_ends
