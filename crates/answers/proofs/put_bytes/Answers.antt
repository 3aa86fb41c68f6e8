use Rattle.answers.proofs.Placing.{bytes_begin, bytes_go_on, bytes_end}
use Rattle.answers.proofs.put_bytes.Goals as goal

pub loop-b-init : goal.loop-b-init
loop-b-init c = search bytes_begin

pub loop-b-preserved : goal.loop-b-preserved
loop-b-preserved c = search bytes_go_on

pub returns : goal.returns
returns c = search bytes_end
