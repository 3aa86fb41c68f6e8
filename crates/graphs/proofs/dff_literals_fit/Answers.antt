use Rattle.laws.proofs.Scans.{scan_begins, scan_goes_on, scan_fails, scan_ends}
use borrow.Author.Tests.{not-true, not-false}
use Rattle.graphs.proofs.dff_literals_fit.Goals as goal

pub loop-k-init : goal.loop-k-init
loop-k-init c = search scan_begins

pub returns-then-not-pins_fit : goal.returns-then-not-pins_fit
returns-then-not-pins_fit c = search (scan_fails, not-true)

pub loop-k-preserved : goal.loop-k-preserved
loop-k-preserved c = search (scan_goes_on, not-false)

pub returns : goal.returns
returns c = search scan_ends
