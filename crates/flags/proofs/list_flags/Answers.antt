use Rattle.flags.proofs.Passing.{list_begins, list_goes_on, list_stops, list_ends}
use Rattle.flags.proofs.list_flags.Goals as goal

pub loop-i-init : goal.loop-i-init
loop-i-init c = search list_begins

pub returns-in_err-pin_flag : goal.returns-in_err-pin_flag
returns-in_err-pin_flag c = rw c.from_residual.ensures (search (list_stops, c.in_err-pin_flag.ensures))

pub loop-i-preserved : goal.loop-i-preserved
loop-i-preserved c = search (list_goes_on, c.in_ok-pin_flag.ensures)

pub returns : goal.returns
returns c = search list_ends
