use Rattle.visits.proofs.Runs.{leaves_next, enters_next}
use Rattle.visits.proofs.act.Goals as goal

pub leave_pin-requires : goal.leave_pin-requires
leave_pin-requires c = search leaves_next

pub enter_pin-requires : goal.enter_pin-requires
enter_pin-requires c = search enters_next
