use Rattle.std.proofs.Common.{rules, tests, refl, length}
use Rattle.pins.proofs.Each.{all_below}
use Rattle.lists.specs.Parts.{musts}
use Rattle.lists.proofs.musts_fit.Goals as goal

pub returns : goal.returns
returns c =
    let a = c.args in
    all_below (musts a.kinds.now a.starts.now a.list.now a.pins.now) (length a.kinds.now) _ _ _ c.all.ensures.ran refl (λ x b q k. search (rules, tests))
