use Rattle.answers.proofs.Placing.{fields_begin, fields_go_on, fields_end}
use Rattle.answers.proofs.put_fields.Goals as goal

pub loop-n-init : goal.loop-n-init
loop-n-init c = search fields_begin

pub loop-n-preserved : goal.loop-n-preserved
loop-n-preserved c = search fields_go_on

pub returns : goal.returns
returns c = search fields_end
