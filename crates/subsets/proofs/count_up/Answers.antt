use Rattle.subsets.proofs.Full.{up_begins, up_goes_on, up_ends}
use Rattle.subsets.proofs.count_up.Goals as goal

pub loop-i-init : goal.loop-i-init
loop-i-init c = search up_begins

pub loop-i-preserved : goal.loop-i-preserved
loop-i-preserved c = search up_goes_on

pub returns : goal.returns
returns c = search up_ends
