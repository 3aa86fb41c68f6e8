use Rattle.picks.proofs.Pushes.{push_full, push_one}
use Rattle.picks.proofs.push.Goals as goal

pub returns-then-table-n : goal.returns-then-table-n
returns-then-table-n c = search push_full

pub returns : goal.returns
returns c = search push_one
