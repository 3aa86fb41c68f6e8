use Rattle.answers.proofs.Placing.{printed_field}
use Rattle.answers.proofs.put_field.Goals as goal

pub returns : goal.returns
returns c = search printed_field
