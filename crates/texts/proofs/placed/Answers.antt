use Rattle.texts.proofs.Lines.{placed_not_number, placed_misshaped, placed_good}
use Rattle.texts.proofs.placed.Goals as goal

pub returns-in-Err : goal.returns-in-Err
returns-in-Err c = search (placed_not_number, c.in-Err.ensures)

pub returns-then-not-is_shaped : goal.returns-then-not-is_shaped
returns-then-not-is_shaped c = search (placed_misshaped, c.in-Ok.ensures)

pub returns-else-not-is_shaped : goal.returns-else-not-is_shaped
returns-else-not-is_shaped c = search (placed_good, c.in-Ok.ensures)
