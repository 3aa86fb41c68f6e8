use Rattle.flags.proofs.Passing.{cells_begin, cells_go_on, cells_stop, cells_end}
use Rattle.flags.proofs.clock_flags.Goals as goal

pub loop-cell-init : goal.loop-cell-init
loop-cell-init c = search cells_begin

pub returns-in_err-cell_flags : goal.returns-in_err-cell_flags
returns-in_err-cell_flags c = rw c.from_residual.ensures (search (cells_stop, c.in_err-cell_flags.ensures))

pub loop-cell-preserved : goal.loop-cell-preserved
loop-cell-preserved c = search (cells_go_on, c.in_ok-cell_flags.ensures)

pub returns : goal.returns
returns c = search cells_end
