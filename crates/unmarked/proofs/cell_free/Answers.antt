use Rattle.unmarked.proofs.Freeing.{passed_none, ends_behind, ends_within, own_below, passed_more, cell_fails, cell_passes}
use Rattle.unmarked.proofs.cell_free.Goals as goal

pub slice_bounds-own-count : goal.slice_bounds-own-count
slice_bounds-own-count c = search ends_behind

pub slice_bounds-own-start : goal.slice_bounds-own-start
slice_bounds-own-start c = search ends_behind

pub slice_bounds-own-end : goal.slice_bounds-own-end
slice_bounds-own-end c = search ends_within

pub loop-p-init : goal.loop-p-init
loop-p-init c = search passed_none

pub pin_free-free-requires-clause-p_in_bounds : goal.pin_free-free-requires-clause-p_in_bounds
pin_free-free-requires-clause-p_in_bounds c = search own_below

pub loop-p-preserved : goal.loop-p-preserved
loop-p-preserved c = search passed_more

pub returns-then-not-free : goal.returns-then-not-free
returns-then-not-free c = search cell_fails

pub returns : goal.returns
returns c = search cell_passes
