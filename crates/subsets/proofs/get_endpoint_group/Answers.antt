use Rattle.subsets.proofs.Endpoints.{group_1, group_15, group_at}
use borrow.Author.Tests.{not-true, not-false}
use Rattle.subsets.proofs.get_endpoint_group.Goals as goal

pub returns-then-not-counts_fit : goal.returns-then-not-counts_fit
returns-then-not-counts_fit c = search (group_1, not-true)

pub returns-then-n-e : goal.returns-then-n-e
returns-then-n-e c = search (group_15, not-false)

pub returns : goal.returns
returns c = search (group_at, not-false)
