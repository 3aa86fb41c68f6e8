use Rattle.std.proofs.Common.{rules, tests, ◌∙◌}
use mathlib.Core.Bool.{not}
use Rattle.std.specs.Prelude.{◌==◌}
use Rattle.pins.proofs.Each.{all_each, by_index}
use Rattle.netlist.proofs.no_latch.Goals as goal

pub returns : goal.returns
returns c =
    let kinds = c.args.kinds.now in
    all_each (λ k. not (k == 12)) kinds _ _ _ c.all.ensures.ran (search rules) (λ x b q k. search (rules, tests)) ∙ by_index (λ k. not (k == 12)) kinds
