use Rattle.tool.proofs.Printing.{printed_broken}
use Rattle.tool.proofs.put_broken.Goals as goal

pub returns : goal.returns
returns c = search printed_broken
