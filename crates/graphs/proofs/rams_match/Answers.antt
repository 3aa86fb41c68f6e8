use Rattle.graphs.proofs.Both.{rams_unmarked, rams_compared}
use borrow.Author.Tests.{not-true, not-false}
use Rattle.graphs.proofs.rams_match.Goals as goal

pub returns-then-not-mark_rams : goal.returns-then-not-mark_rams
returns-then-not-mark_rams c = search (rams_unmarked, not-true)

pub returns : goal.returns
returns c = search (rams_compared, not-false)
