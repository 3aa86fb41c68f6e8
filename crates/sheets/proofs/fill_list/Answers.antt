use Rattle.sheets.proofs.Filling.{lists_begin, lists_go_on, lists_end, lists_count}
use Rattle.sheets.proofs.fill_list.Goals as goal

pub loop-i-init : goal.loop-i-init
loop-i-init c = search lists_begin

pub loop-i-preserved : goal.loop-i-preserved
loop-i-preserved c = search lists_go_on

pub returns : goal.returns
returns c = (search lists_end, search lists_count)
