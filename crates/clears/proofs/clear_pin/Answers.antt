use Rattle.clears.proofs.Clearing.{pin_done}
use Rattle.clears.proofs.clear_pin.Goals as goal

pub returns : goal.returns
returns c = search pin_done
