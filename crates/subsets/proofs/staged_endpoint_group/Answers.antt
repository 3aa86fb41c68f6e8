use Rattle.subsets.proofs.Endpoints.{staged_1, staged_1_handed, staged_1_taken, staged_15, staged_at}
use mathlib.Core.Path.{sym, ◌∙◌}
use borrow.Author.Tests.{not-true, not-false}
use Rattle.subsets.proofs.staged_endpoint_group.Goals as goal

pub returns-then-not-counts_fit : goal.returns-then-not-counts_fit
returns-then-not-counts_fit c = search (staged_1, not-true)

pub returns-then-handed-gt16777215 : goal.returns-then-handed-gt16777215
returns-then-handed-gt16777215 c = search (staged_1_handed, not-false)

pub returns-then-taken-gt16777215 : goal.returns-then-taken-gt16777215
returns-then-taken-gt16777215 c = search (staged_1_taken, not-false)

pub returns-then-not-is_there : goal.returns-then-not-is_there
returns-then-not-is_there c = search (staged_15, not-false, not-true)

pub staged_by-requires : goal.staged_by-requires
staged_by-requires c = sym c.is_there.ensures ∙ c.if-not-is_there.false

pub returns : goal.returns
returns c = search (staged_at, not-false)
