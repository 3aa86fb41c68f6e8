use Rattle.answers.proofs.Lines.{stages_begin, stages_go_on, stages_end}
use Rattle.answers.proofs.put_stages.Goals as goal

pub loop-i-init : goal.loop-i-init
loop-i-init c = search stages_begin

pub loop-i-preserved : goal.loop-i-preserved
loop-i-preserved c = search stages_go_on

pub returns : goal.returns
returns c = search stages_end
