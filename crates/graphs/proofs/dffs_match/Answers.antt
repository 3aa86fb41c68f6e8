use Rattle.graphs.proofs.Both.{dffs_unmarked, dffs_compared}
use borrow.Author.Tests.{not-true, not-false}
use Rattle.graphs.proofs.dffs_match.Goals as goal

pub returns-then-not-mark_dffs : goal.returns-then-not-mark_dffs
returns-then-not-mark_dffs c = search (dffs_unmarked, not-true)

pub returns : goal.returns
returns c = search (dffs_compared, not-false)
