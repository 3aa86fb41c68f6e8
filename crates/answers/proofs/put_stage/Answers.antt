use Rattle.answers.proofs.Lines.{printed_stage}
use Rattle.answers.proofs.put_stage.Goals as goal

pub returns : goal.returns
returns c = search printed_stage
