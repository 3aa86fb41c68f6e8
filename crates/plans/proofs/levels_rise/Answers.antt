use Rattle.plans.proofs.Levels.{rise_begins, rise_fails, rise_goes_on, rise_ends}
use Rattle.plans.proofs.levels_rise.Goals as goal

pub loop-i-init : goal.loop-i-init
loop-i-init c = search rise_begins

pub returns-then-b-a : goal.returns-then-b-a
returns-then-b-a c = search rise_fails

pub loop-i-preserved : goal.loop-i-preserved
loop-i-preserved c = search rise_goes_on

pub returns : goal.returns
returns c = search rise_ends
