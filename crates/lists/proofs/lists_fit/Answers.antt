use Rattle.std.proofs.Common.{rules, tests, refl}
use Rattle.pins.proofs.Each.{all_below}
use Rattle.lists.specs.Parts.{fitting}
use Rattle.lists.proofs.lists_fit.Goals as goal

pub returns : goal.returns
returns c = let a = c.args in all_below (fitting a.starts.now a.list.now a.pins.now) a.cells _ _ _ c.all.ensures.ran refl (λ x b q k. search (rules, tests))
