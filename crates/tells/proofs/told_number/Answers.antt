use Rattle.tells.proofs.Telling.{told_1, told_2, told_rest}
use Rattle.tells.proofs.told_number.Goals as goal

pub returns-then-number-eq1 : goal.returns-then-number-eq1
returns-then-number-eq1 c = search told_1

pub returns-then-room-lt3 : goal.returns-then-room-lt3
returns-then-room-lt3 c = search told_2

pub returns : goal.returns
returns c = search told_rest
