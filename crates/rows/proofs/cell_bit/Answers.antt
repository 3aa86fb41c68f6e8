use Rattle.rows.proofs.Filling.{from_below, list_held, bit_place, bit-told, bit-none}
use Rattle.rows.proofs.cell_bit.Goals as goal

pub overflow_sub-count : goal.overflow_sub-count
overflow_sub-count c = search (from_below, c.requires.known, c.requires.cell_in_bounds)

pub entry_bit-found-requires : goal.entry_bit-found-requires
entry_bit-found-requires c = search (list_held, c.requires.known, c.requires.cell_in_bounds)

pub literal_at-requires : goal.literal_at-requires
literal_at-requires c = search (bit_place, c.requires.known, c.requires.cell_in_bounds, c.word-from.ensures, c.word-end.ensures, c.entry_bit-found.ensures)

pub returns-in-Some : goal.returns-in-Some
returns-in-Some c = search (bit-told, c.requires.known, c.requires.cell_in_bounds, c.word-from.ensures, c.word-end.ensures, c.entry_bit-found.ensures)

pub returns-in-None : goal.returns-in-None
returns-in-None c = search (bit-none, c.requires.known, c.requires.cell_in_bounds, c.word-from.ensures, c.word-end.ensures, c.entry_bit-found.ensures)
