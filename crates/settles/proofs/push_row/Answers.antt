use Rattle.settles.proofs.Rows.{row_full, row_done}
use Rattle.settles.proofs.push_row.Goals as goal

pub returns-then-room-lt4 : goal.returns-then-room-lt4
returns-then-room-lt4 c = search row_full

pub returns : goal.returns
returns c = search row_done
