use Rattle.laws.proofs.Scans.{scan_begins, scan_goes_on}
use Rattle.unmarked.proofs.Freeing.{cells_fail, cells_end}
use Rattle.unmarked.proofs.markers_free.Goals as goal

pub loop-cell-init : goal.loop-cell-init
loop-cell-init c = search scan_begins

pub returns-then-not-free : goal.returns-then-not-free
returns-then-not-free c = search cells_fail

pub loop-cell-preserved : goal.loop-cell-preserved
loop-cell-preserved c = search scan_goes_on

pub returns : goal.returns
returns c = search cells_end
