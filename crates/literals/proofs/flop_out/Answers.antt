use Rattle.literals.proofs.Settling.{leaves_flop}
use Rattle.literals.proofs.flop_out.Goals as goal

pub returns : goal.returns
returns c = search leaves_flop
