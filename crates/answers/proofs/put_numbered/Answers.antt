use Rattle.answers.proofs.Lines.{numbered_begin, numbered_go_on, numbered_end}
use Rattle.answers.proofs.put_numbered.Goals as goal

pub loop-i-init : goal.loop-i-init
loop-i-init c = search numbered_begin

pub loop-i-preserved : goal.loop-i-preserved
loop-i-preserved c = search numbered_go_on

pub returns : goal.returns
returns c = search numbered_end
