use Rattle.answers.proofs.Placing.{printed_byte, printed_past}
use Rattle.answers.proofs.put_byte.Goals as goal

pub returns-then-at-out : goal.returns-then-at-out
returns-then-at-out c = search printed_byte

pub returns : goal.returns
returns c = search printed_past
