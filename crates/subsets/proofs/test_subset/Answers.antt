use Rattle.subsets.proofs.Places.{subset_1, handed_few, taken_few, subset_later}
use borrow.Author.Tests.{not-true, not-false}
use Rattle.subsets.proofs.test_subset.Goals as goal

pub returns-then-not-lists_fit : goal.returns-then-not-lists_fit
returns-then-not-lists_fit c = search (subset_1, not-true)

pub test_places-requires : goal.test_places-requires
test_places-requires c = record { n_value = search; handed_bound = search (handed_few, not-false); taken_bound = search (taken_few, not-false) }

pub returns : goal.returns
returns c = search (subset_later, not-false)
