use Rattle.std.proofs.Common.{rules, tests, refl, length}
use lib.ListN.{get_or}
use Rattle.pins.proofs.Each.{all_below}
use Rattle.netlist.specs.Tables.{kind_fits}
use Rattle.netlist.proofs.kinds_fit.Goals as goal

pub returns : goal.returns
returns c =
    let kinds = c.args.kinds.now in
    all_below (λ k. kind_fits (get_or kinds k 0) k) (length kinds) _ _ _ c.all.ensures.ran refl (λ x b q k. search (rules, tests))
