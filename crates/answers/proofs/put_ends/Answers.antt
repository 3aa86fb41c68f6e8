use Rattle.answers.proofs.Lines.{printed_open, printed_closed}
use Rattle.answers.proofs.put_ends.Goals as goal

pub returns-then-upper-eq4294967295 : goal.returns-then-upper-eq4294967295
returns-then-upper-eq4294967295 c = search printed_open

pub returns : goal.returns
returns c = search printed_closed
