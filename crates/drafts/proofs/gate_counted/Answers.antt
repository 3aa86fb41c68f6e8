use Rattle.drafts.proofs.Steps.{counted_same, counted-more}
use Rattle.drafts.proofs.gate_counted.Goals as goal

pub returns-then-pins-t : goal.returns-then-pins-t
returns-then-pins-t c = search counted_same

pub returns : goal.returns
returns c = search counted-more
