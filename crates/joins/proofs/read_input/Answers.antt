use Rattle.joins.proofs.Reading.{input_none, input_read}
use Rattle.joins.proofs.read_input.Goals as goal

pub returns-then-p-eq0 : goal.returns-then-p-eq0
returns-then-p-eq0 c = search input_none

pub returns : goal.returns
returns c = search input_read
