use Rattle.graphs.proofs.Rams.{rams_go_on, rams_fail, rams_end}
use Rattle.marks.proofs.Picking.{pick_begins}
use borrow.Author.Tests.{not-true, not-false}
use Rattle.graphs.proofs.mark_rams.Goals as goal

pub loop-i-init : goal.loop-i-init
loop-i-init c = search pick_begins

pub returns-then-not-mark_present : goal.returns-then-not-mark_present
returns-then-not-mark_present c = search (rams_fail, not-true)

pub loop-i-preserved : goal.loop-i-preserved
loop-i-preserved c = search (rams_go_on, not-false)

pub returns : goal.returns
returns c = search rams_end
