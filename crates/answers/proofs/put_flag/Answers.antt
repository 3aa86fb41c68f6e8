use Rattle.answers.proofs.Lines.{printed_rising, printed_falling}
use Rattle.answers.proofs.put_flag.Goals as goal

pub returns-then-b-eq0 : goal.returns-then-b-eq0
returns-then-b-eq0 c = search printed_rising

pub returns-else-b-eq0 : goal.returns-else-b-eq0
returns-else-b-eq0 c = search printed_falling
