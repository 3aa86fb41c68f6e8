use Rattle.levels.proofs.Raises.{first_inside, first_room, second_inside, second_room, raise_done}
use Rattle.levels.proofs.raise.Goals as goal

pub returns : goal.returns
returns c = search raise_done
