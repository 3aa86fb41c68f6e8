use Rattle.sheets.proofs.Filling.{starts_begin, starts_go_on, starts_end}
use Rattle.sheets.proofs.fill_starts.Goals as goal

pub loop-i-init : goal.loop-i-init
loop-i-init c = search starts_begin

pub loop-i-preserved : goal.loop-i-preserved
loop-i-preserved c = search starts_go_on

pub returns : goal.returns
returns c = search starts_end
