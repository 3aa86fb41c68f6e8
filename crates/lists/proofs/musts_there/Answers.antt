use Rattle.std.proofs.Common.{rules, tests, refl, ◌∙◌}
use Rattle.pins.proofs.Each.{all_below}
use Rattle.lists.specs.Parts.{must_by}
use Rattle.lists.proofs.Musts.{by_name_lem}
use Rattle.lists.proofs.musts_there.Goals as goal

pub returns : goal.returns
returns c =
    let a = c.args in
    all_below (must_by a.pins.now a.entries.now a.kind) 17 _ _ _ c.all.ensures.ran refl (λ x b q k. search (rules, tests))
    ∙ by_name_lem a.pins.now a.entries.now a.kind c.requires.kind_bound
