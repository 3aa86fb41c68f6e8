use native.Mathlib.Omega.{arith}
use Rattle.markers.proofs.Marking.{event_inside, marking_goes_on, marking_ends}
use Rattle.markers.proofs.mark_all.Goals as goal

pub mark_pin-requires-clause-p_in_bounds : goal.mark_pin-requires-clause-p_in_bounds
mark_pin-requires-clause-p_in_bounds c = search event_inside

pub loop-i-preserved : goal.loop-i-preserved
loop-i-preserved c = (search marking_goes_on, omega arith)

pub returns : goal.returns
returns c = search marking_ends
