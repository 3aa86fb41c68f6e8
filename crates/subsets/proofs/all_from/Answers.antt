use Rattle.subsets.proofs.Places.{from_begins, from_goes_on, from_fails, from_ends}
use Rattle.subsets.proofs.all_from.Goals as goal

pub loop-i-init : goal.loop-i-init
loop-i-init c = search from_begins

pub returns-then-p-h : goal.returns-then-p-h
returns-then-p-h c = search from_fails

pub loop-i-preserved : goal.loop-i-preserved
loop-i-preserved c = search from_goes_on

pub returns : goal.returns
returns c = search from_ends
