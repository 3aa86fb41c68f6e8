use Rattle.picks.proofs.Lows.{low-none, low-one}
use Rattle.picks.proofs.low_input.Goals as goal

pub returns-then-p-eq0 : goal.returns-then-p-eq0
returns-then-p-eq0 c = search low-none

pub returns : goal.returns
returns c = search low-one
