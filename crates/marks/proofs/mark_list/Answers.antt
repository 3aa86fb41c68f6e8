use Rattle.marks.proofs.Picking.{pick_begins, each_goes_on, each_fails, each_ends, places}
use Rattle.marks.proofs.mark_list.Goals as goal

pub loop-p-init : goal.loop-p-init
loop-p-init c = search pick_begins

pub returns-then-not-mark_new : goal.returns-then-not-mark_new
returns-then-not-mark_new c = search (each_fails, places)

pub loop-p-preserved : goal.loop-p-preserved
loop-p-preserved c = search each_goes_on

pub returns : goal.returns
returns c = search (each_ends, places)
