use Rattle.flops.proofs.Flopping.{number_place, number_some, number-told}
use Rattle.flops.proofs.flop_place.Goals as goal

pub word-number-requires : goal.word-number-requires
word-number-requires c = number_place _ _ _ c.requires.known c.requires.cell_in_bounds _ c.word-start.ensures

pub overflow_sub-result : goal.overflow_sub-result
overflow_sub-result c = number_some _ _ _ c.requires.known c.requires.cell_in_bounds c.requires.cell_value _ c.word-start.ensures _ c.word-number.ensures

pub returns : goal.returns
returns c = search (number-told, c.requires.known)
