use Rattle.visits.proofs.Leaves.{stored-left}
use Rattle.visits.proofs.stored_out.Goals as goal

pub returns : goal.returns
returns c = record { loans = c.flop_out.ensures.loans; left = search (stored-left, c.flop_out.ensures.left) }
