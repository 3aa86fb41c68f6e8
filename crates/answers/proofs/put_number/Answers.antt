use Rattle.answers.proofs.Placing.{digits_begin, digits_go_on, digits_end}
use Rattle.answers.proofs.put_number.Goals as goal

pub loop-init : goal.loop-init
loop-init c = search digits_begin

pub loop-preserved : goal.loop-preserved
loop-preserved c = search digits_go_on

pub returns : goal.returns
returns c = search digits_end
