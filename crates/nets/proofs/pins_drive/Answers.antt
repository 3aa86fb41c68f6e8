use Rattle.std.proofs.Common.{rules, tests, refl}
use Rattle.pins.proofs.Each.{all_below}
use Rattle.nets.specs.Driven.{driving}
use Rattle.nets.proofs.pins_drive.Goals as goal

pub returns : goal.returns
returns c = let a = c.args in all_below (driving a.pins.now a.nets.now) a.size _ _ _ c.all.ensures.ran refl (λ x b q k. search (rules, tests))
