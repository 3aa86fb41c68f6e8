use Rattle.std.proofs.Common.{rules, tests, refl, length}
use Rattle.pins.proofs.Each.{all_below}
use Rattle.nets.specs.Driven.{net_driven}
use Rattle.nets.proofs.nets_driven.Goals as goal

pub returns : goal.returns
returns c = let a = c.args in all_below (net_driven a.pins.now a.size a.nets.now) (length a.nets.now) _ _ _ c.all.ensures.ran refl (λ x b q k. search (rules, tests))
