use Rattle.literals.proofs.Settling.{entry_below, literal_there, literal-none}
use Rattle.roles.proofs.Fitting.{laid}
use Rattle.literals.proofs.named_literal.Goals as goal

pub cell_entry-requires-clause-laid : goal.cell_entry-requires-clause-laid
cell_entry-requires-clause-laid c = search laid

pub literal_at-requires : goal.literal_at-requires
literal_at-requires c = search (entry_below, c.in-Some.ensures)

pub returns-in-Some : goal.returns-in-Some
returns-in-Some c = search (literal_there, c.in-Some.ensures)

pub returns-in-None : goal.returns-in-None
returns-in-None c = search (literal-none, c.in-None.ensures)
