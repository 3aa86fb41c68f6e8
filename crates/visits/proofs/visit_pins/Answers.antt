use Rattle.visits.proofs.Runs.{visits_stop, visits_end}
use Rattle.visits.proofs.visit_pins.Goals as goal

pub returns-in_err-act : goal.returns-in_err-act
returns-in_err-act c = rw c.from_residual.ensures (search (visits_stop, c.in_err-act.ensures))

pub returns : goal.returns
returns c = search visits_end
