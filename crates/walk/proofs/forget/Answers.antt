use Rattle.walk.proofs.Forgets.{forget_begins, forget_goes_on, forget_ends}
use Rattle.walk.proofs.forget.Goals as goal

pub loop-i-init : goal.loop-i-init
loop-i-init c = search forget_begins

pub loop-i-preserved : goal.loop-i-preserved
loop-i-preserved c = search forget_goes_on
