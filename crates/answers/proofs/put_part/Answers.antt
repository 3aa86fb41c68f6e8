use Rattle.answers.proofs.Placing.{printed_part}
use Rattle.answers.proofs.put_part.Goals as goal

pub returns : goal.returns
returns c = search printed_part
