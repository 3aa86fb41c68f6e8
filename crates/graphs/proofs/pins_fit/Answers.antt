use Rattle.graphs.proofs.Scanning.{pin_past, pin_within}
use Rattle.laws.proofs.Scans.{scan_begins, scan_passes, scan_stops, scan_ends}
use Rattle.graphs.proofs.pins_fit.Goals as goal

pub loop-i-init : goal.loop-i-init
loop-i-init c = search scan_begins

pub returns-then-pins-pin : goal.returns-then-pins-pin
returns-then-pins-pin c = search (scan_stops, pin_past)

pub loop-i-preserved : goal.loop-i-preserved
loop-i-preserved c = search (scan_passes, pin_within)

pub returns : goal.returns
returns c = search scan_ends
