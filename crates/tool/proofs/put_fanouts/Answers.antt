use Rattle.tool.proofs.Printing.{printed_fanouts}
use Rattle.tool.proofs.put_fanouts.Goals as goal

pub returns : goal.returns
returns c = search printed_fanouts
