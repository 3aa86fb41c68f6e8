use Rattle.std.proofs.Common.{rules, tests, length}
use Rattle.pins.proofs.Each.{all_each}
use Rattle.lists.specs.Parts.{own, cell_list, fitting}
use Rattle.lists.proofs.list_fits.Goals as goal

pub returns : goal.returns
unfolding fitting
returns c =
    let a = c.args in
    all_each (own a.pins.now (length a.list.now) a.cell) (cell_list a.starts.now a.list.now a.cell) _ _ _ c.all.ensures.ran (search rules) (λ x b q k. search (rules, tests))
