use Prim.Native.Nat.{ℕ}
use mathlib.Core.Bool.{true}
use mathlib.Core.Path.{ap, ◌∙◌}
use Rattle.laws.specs.Words.{zeros}
use Rattle.rules.specs.Tables.{words_in}
use Rattle.rules.specs.Answers.{graph_number, done_of, check_graph_number}
use Rattle.graphs.proofs.Numbers.{zeros_self}
use Rattle.graphs.proofs.check_graph.Goals as goal

pub test_graph-tested-requires : goal.test_graph-tested-requires
test_graph-tested-requires c = search zeros_self

pub returns : goal.returns
unfolding check_graph_number
returns c = let g = c.args.g in
    let same = c.zero.auto.s in (
      c.test_graph-tested.ensures ∙ ap (λ (x : ℕ). done_of (graph_number g.ends.counts (words_in g) x true true)) same,
      c.zero-2.ensures ∙ ap zeros (c.test_graph-tested.auto.work ∙ same),
    )
