use Rattle.graphs.proofs.Numbers.{fitting, not_within, no_counts, not_long, no_lengths, not_fitting, all_fits}
use borrow.Author.Tests.{not-true, not-false}
use Rattle.graphs.proofs.test_graph.Goals as goal

pub returns-then-not-graph_within : goal.returns-then-not-graph_within
returns-then-not-graph_within c = search (not_within, not-true)

pub returns-then-not-counts : goal.returns-then-not-counts
returns-then-not-counts c = search (no_counts, not-true, not-false)

pub returns-then-not-graph_long : goal.returns-then-not-graph_long
returns-then-not-graph_long c = search (not_long, not-true, not-false)

pub returns-then-not-lengths : goal.returns-then-not-lengths
returns-then-not-lengths c = search (no_lengths, not-true, not-false)

pub graph_fits-requires : goal.graph_fits-requires
graph_fits-requires c = let g = c.args.g in fitting g.ends.counts g.drivers.now g.ends.outputs.now g.ends.dffs.now g.ends.rams.now c.args.work.now _ _ c.graph_within.ensures c.if-not-graph_within.false c.graph_long.ensures c.if-not-graph_long.false c.requires

pub returns-then-not-graph_fits : goal.returns-then-not-graph_fits
returns-then-not-graph_fits c = search (not_fitting, not-true, not-false)

pub returns : goal.returns
returns c = search (all_fits, not-false)
