use Rattle.answers.proofs.Lines.{printed_driver}
use Rattle.answers.proofs.put_driver.Goals as goal

pub returns : goal.returns
returns c = search printed_driver
