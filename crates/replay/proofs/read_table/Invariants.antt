use Rattle.std.proofs.Common.{◌-◌}
use Rattle.replay.proofs.read_table.Given as goal

abbrev pub decreases-loop-i : goal.decreases-loop-i
decreases-loop-i l = 1280 - l.i
