use Rattle.gates.proofs.Steps.{pair_old, pair_full, pair_new}
use Rattle.gates.proofs.pair_gate.Goals as goal

pub returns-then-p-pins : goal.returns-then-p-pins
returns-then-p-pins c = search pair_old

pub returns-then-drivers-row : goal.returns-then-drivers-row
returns-then-drivers-row c = search pair_full

pub returns : goal.returns
returns c = search pair_new
