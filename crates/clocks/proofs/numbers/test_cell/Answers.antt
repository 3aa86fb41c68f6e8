use Rattle.std.proofs.lemmas.Result.{err_from_is_err_and}
use Rattle.clocks.proofs.Numbering.{trying_begins, trying_goes_on, ends_behind, ends_within, own_below, cell_fails, cell_passes}
use Rattle.clocks.proofs.numbers.test_cell.Goals as goal

pub slice_bounds-own-count : goal.slice_bounds-own-count
slice_bounds-own-count c = search ends_behind

pub slice_bounds-own-start : goal.slice_bounds-own-start
slice_bounds-own-start c = search ends_behind

pub slice_bounds-own-end : goal.slice_bounds-own-end
slice_bounds-own-end c = search ends_within

pub loop-p-init : goal.loop-p-init
loop-p-init c = search trying_begins

pub test_clock-requires-clause-p_in_bounds : goal.test_clock-requires-clause-p_in_bounds
test_clock-requires-clause-p_in_bounds c = search own_below

pub loop-p-preserved : goal.loop-p-preserved
loop-p-preserved c = search (trying_goes_on, c.in_ok-test_clock.ensures)

pub returns-in_err-test_clock : goal.returns-in_err-test_clock
returns-in_err-test_clock c =
    let p = err_from_is_err_and c.from_residual.result c.from_residual.ensures.1 in
    rw (p.1, p.2) (search (cell_fails, c.in_err-test_clock.ensures))

pub returns : goal.returns
returns c = search cell_passes
