use Rattle.texts.proofs.Bytes.{seek_begins, seek_goes_on, seek_finds, seek_ends}
use Rattle.texts.proofs.until.Goals as goal

pub loop-i-init : goal.loop-i-init
loop-i-init c = search seek_begins

pub returns-then-s-i : goal.returns-then-s-i
returns-then-s-i c = search seek_finds

pub loop-i-preserved : goal.loop-i-preserved
loop-i-preserved c = search seek_goes_on

pub returns : goal.returns
returns c = search seek_ends
