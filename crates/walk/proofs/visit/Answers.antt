use Rattle.walk.proofs.Visits.{visited_before, visit_begins, visit_goes_on, visit_ends}
use Rattle.walk.proofs.visit.Goals as goal

pub loop-at-init : goal.loop-at-init
loop-at-init c = search visit_begins

pub loop-at-preserved : goal.loop-at-preserved
loop-at-preserved c = search visit_goes_on

pub returns : goal.returns
returns c = search visit_ends
