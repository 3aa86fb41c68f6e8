use Rattle.sheets.proofs.Filling.{kinds_begin, kinds_go_on, kinds_end}
use Rattle.sheets.proofs.fill_kinds.Goals as goal

pub loop-i-init : goal.loop-i-init
loop-i-init c = search kinds_begin

pub loop-i-preserved : goal.loop-i-preserved
loop-i-preserved c = search kinds_go_on

pub returns : goal.returns
returns c = search kinds_end
