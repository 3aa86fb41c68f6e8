use Rattle.flops.proofs.Flopping.{pin_place, pin_told}
use Rattle.flops.proofs.flop_pin.Goals as goal

pub word-requires : goal.word-requires
word-requires c = pin_place _ _ _ c.requires.known c.requires.cell_in_bounds _ c.word-start.ensures

pub returns : goal.returns
returns c = search (pin_told, c.requires.known)
