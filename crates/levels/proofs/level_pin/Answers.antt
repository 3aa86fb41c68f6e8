use Rattle.levels.proofs.Raises.{pin_nowhere, pin_rises, pin_raised}
use Rattle.levels.proofs.level_pin.Goals as goal

pub returns : goal.returns
returns c = search (pin_raised, c.in-Some.ensures)
