use Rattle.tool.proofs.Printing.{printed_pins}
use Rattle.tool.proofs.put_pins.Goals as goal

pub returns : goal.returns
returns c = search printed_pins
