use Rattle.std.proofs.lemmas.Result.{err_from_is_err_and}
use Rattle.clocks.proofs.Numbering.{numbered_begins, numbered_ends, numbered_fails, numbered_goes_on}
use Rattle.clocks.proofs.numbers.test_clocks.Goals as goal

pub loop-cell-init : goal.loop-cell-init
loop-cell-init c = search numbered_begins

pub loop-cell-preserved : goal.loop-cell-preserved
loop-cell-preserved c = search (numbered_goes_on, c.in_ok-test_cell.ensures)

pub returns-in_err-test_cell : goal.returns-in_err-test_cell
returns-in_err-test_cell c =
    let p = err_from_is_err_and c.from_residual.result c.from_residual.ensures.1 in
    rw (p.1, p.2) (search (numbered_fails, c.in_err-test_cell.ensures))

pub returns : goal.returns
returns c = search numbered_ends
