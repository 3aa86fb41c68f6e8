use Rattle.checks.proofs.Entry.{sizes_1, sizes_2, sizes_room, sizes_pass}
use Rattle.checks.proofs.test_sizes.Goals as goal
use Rattle.checks.proofs.test_sizes.Goals.{then-not-long-via-then-not-long, then-not-long-via-else-not-long+then-work-room}

pub returns-then-not-netlist_within : goal.returns-then-not-netlist_within
returns-then-not-netlist_within c = search sizes_1

pub returns-then-not-long : goal.returns-then-not-long
returns-then-not-long c =
    elim c.then-not-long.branch [ then-not-long-via-then-not-long w ↦ search sizes_2 | then-not-long-via-else-not-long+then-work-room w ↦ search sizes_room ]

pub returns : goal.returns
returns c = search sizes_pass
