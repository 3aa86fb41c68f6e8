use Rattle.inputs.proofs.Answers.{many, not_long, no_endpoint, lent, no_input, the_input}
use borrow.Author.Tests.{not-true, not-false}
use native.Mathlib.Omega.{arith}
use Rattle.inputs.proofs.endpoint_input.Goals as goal

pub returns-then-not-counts_fit : goal.returns-then-not-counts_fit
returns-then-not-counts_fit c = search (many, not-true)

pub returns-then-not-ends_long : goal.returns-then-not-ends_long
returns-then-not-ends_long c = search (not_long, not-true, not-false)

pub returns-then-num_endpoint_groups-e : goal.returns-then-num_endpoint_groups-e
returns-then-num_endpoint_groups-e c = search (no_endpoint, not-false)

pub find_input-p-requires : goal.find_input-p-requires
find_input-p-requires c = let a = c.args in record { lent = lent a.ends.counts a.ends.outputs.now a.ends.dffs.now a.ends.rams.now a.e a.i _ c.counts_fit.ensures c.if-not-counts_fit.false _ c.ends_long.ensures c.if-not-ends_long.false _ c.num_endpoint_groups.ensures; e_bound = omega arith }

pub returns-then-p-eq0 : goal.returns-then-p-eq0
returns-then-p-eq0 c = search (no_input, not-false)

pub returns : goal.returns
returns c = search (the_input, not-false)
