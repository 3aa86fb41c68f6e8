use Rattle.laws.proofs.Scans.{scan_begins, scan_goes_on, scan_fails, scan_ends}
use borrow.Author.Tests.{not-true, not-false}
use Rattle.graphs.proofs.marks_match.Goals as goal

pub loop-u-init : goal.loop-u-init
loop-u-init c = search scan_begins

pub returns-then-not-agrees : goal.returns-then-not-agrees
returns-then-not-agrees c = search (scan_fails, not-true)

pub loop-u-preserved : goal.loop-u-preserved
loop-u-preserved c = search (scan_goes_on, not-false)

pub returns : goal.returns
returns c = search scan_ends
