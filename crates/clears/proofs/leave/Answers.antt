use Rattle.clears.proofs.Leaving.{leave_begins, leave_set, leave_inside, leave_goes_on, leave_ends}
use Rattle.clears.proofs.leave.Goals as goal

pub loop-i-init : goal.loop-i-init
loop-i-init c = search leave_begins

pub remove-n-requires : goal.remove-n-requires
remove-n-requires c = record { set_in = search leave_set; x_lt_cap = search leave_inside }

pub loop-i-preserved : goal.loop-i-preserved
loop-i-preserved c = search leave_goes_on

pub returns : goal.returns
returns c = search leave_ends
