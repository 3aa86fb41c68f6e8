use Rattle.std.proofs.Common.{rules, tests}
use Rattle.pins.proofs.Each.{any_each}
use Rattle.lists.specs.Parts.{unnamed}
use Rattle.lists.proofs.names.Goals as goal

pub returns : goal.returns
returns c = let a = c.args in any_each (unnamed a.pins.now a.name) a.entries.now _ _ _ c.any.ensures.ran (search rules) (λ x b q k. search (rules, tests))
