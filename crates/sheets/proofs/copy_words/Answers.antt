use Rattle.sheets.proofs.Filling.{copy_begins, copy_goes_on, copy_ends}
use Rattle.sheets.proofs.copy_words.Goals as goal

pub loop-i-init : goal.loop-i-init
loop-i-init c = search copy_begins

pub loop-i-preserved : goal.loop-i-preserved
loop-i-preserved c = search copy_goes_on

pub returns : goal.returns
returns c = search copy_ends
