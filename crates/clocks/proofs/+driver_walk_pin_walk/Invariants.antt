-- Each step of the walk has a gate less left: a driver's two steps lie between two pins'.
use Rattle.std.proofs.Common.{◌+◌, ◌*◌}
use Rattle.clocks.proofs.+driver_walk_pin_walk.Given as goal

abbrev pub decreases-driver_walk : goal.decreases-driver_walk
decreases-driver_walk l = 2 * l.left

abbrev pub decreases-pin_walk : goal.decreases-pin_walk
decreases-pin_walk l = 2 * l.left + 1
