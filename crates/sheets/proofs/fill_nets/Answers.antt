use Rattle.sheets.proofs.Filling.{nets_begin, nets_go_on, nets_end}
use borrow.Author.Rules.{rules}
use Rattle.sheets.proofs.fill_nets.Goals as goal

pub loop-i-init : goal.loop-i-init
loop-i-init c = (search nets_begin, search rules)

pub loop-i-preserved : goal.loop-i-preserved
loop-i-preserved c = (search nets_go_on, search rules)

pub returns : goal.returns
returns c = search nets_end
