use Rattle.rows.proofs.Filling.{scanning_begins, scanning_ends, scanning_found, scanning_goes_on, entry_held}
use Rattle.rows.proofs.entry_bit.Goals as goal

pub loop-i-init : goal.loop-i-init
loop-i-init c = search scanning_begins

pub has_bit-hit-requires : goal.has_bit-hit-requires
has_bit-hit-requires c = search entry_held

pub returns-then-hit : goal.returns-then-hit
returns-then-hit c = search scanning_found

pub loop-i-preserved : goal.loop-i-preserved
loop-i-preserved c = search scanning_goes_on

pub returns : goal.returns
returns c = search scanning_ends
