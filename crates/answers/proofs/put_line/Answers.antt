use Rattle.answers.proofs.Placing.{printed_line}
use Rattle.answers.proofs.put_line.Goals as goal

pub returns : goal.returns
returns c = search printed_line
