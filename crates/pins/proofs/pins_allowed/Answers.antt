use Rattle.std.proofs.Common.{rules, tests, refl}
use Rattle.pins.specs.Words.{slotted}
use Rattle.pins.proofs.Each.{all_below}
use Rattle.pins.proofs.pins_allowed.Goals as goal

pub returns : goal.returns
returns c = let a = c.args in all_below (slotted a.kinds.now a.pins.now) a.size _ _ _ c.all.ensures.ran refl (λ x b q k. search (rules, tests))
