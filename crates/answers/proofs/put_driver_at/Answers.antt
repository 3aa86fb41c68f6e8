use Rattle.answers.proofs.Lines.{printed_driver_at}
use Rattle.answers.proofs.put_driver_at.Goals as goal

pub returns : goal.returns
returns c = search printed_driver_at
