use Rattle.netlist.proofs.Steps.{now_listed}
use Rattle.netlist.proofs.pins_fit.Goals as goal

pub pins_right-requires-clause-listed : goal.pins_right-requires-clause-listed
pins_right-requires-clause-listed c = search now_listed
