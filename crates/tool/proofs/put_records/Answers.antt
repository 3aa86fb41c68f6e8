use Rattle.tool.proofs.Printing.{printed_records}
use Rattle.tool.proofs.put_records.Goals as goal

pub returns : goal.returns
returns c = search printed_records
