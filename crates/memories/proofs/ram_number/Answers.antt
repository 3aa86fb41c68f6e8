use Rattle.memories.proofs.Remembering.{number_place, number-none, number-told}
use Rattle.memories.proofs.ram_number.Goals as goal

pub returns-then-start-end : goal.returns-then-start-end
returns-then-start-end c = search (number-none, c.requires.known, c.requires.cell_in_bounds, c.requires.cell_value)

pub word-requires : goal.word-requires
word-requires c = search (number_place, c.requires.known, c.requires.cell_in_bounds, c.requires.cell_value)

pub returns : goal.returns
returns c = search (number-told, c.requires.known, c.requires.cell_in_bounds, c.requires.cell_value)
