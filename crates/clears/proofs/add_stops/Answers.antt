use Rattle.clears.proofs.Leaving.{stop_begins, stop_goes_on, stop_ends}
use Rattle.clears.proofs.add_stops.Goals as goal

pub loop-i-init : goal.loop-i-init
loop-i-init c = search stop_begins

pub loop-i-preserved : goal.loop-i-preserved
loop-i-preserved c = search stop_goes_on

pub returns : goal.returns
returns c = search stop_ends
