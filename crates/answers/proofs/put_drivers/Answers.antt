use Rattle.answers.proofs.Lines.{drivers_begin, drivers_go_on, drivers_end}
use Rattle.answers.proofs.put_drivers.Goals as goal

pub loop-i-init : goal.loop-i-init
loop-i-init c = search drivers_begin

pub loop-i-preserved : goal.loop-i-preserved
loop-i-preserved c = search drivers_go_on

pub returns : goal.returns
returns c = search drivers_end
