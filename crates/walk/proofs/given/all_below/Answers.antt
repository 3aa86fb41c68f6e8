use Rattle.walk.proofs.Handed.{below_begins, below_goes_on, below_fails, below_ends}
use Rattle.walk.proofs.given.all_below.Goals as goal

pub returns : goal.returns
returns c = search below_ends
