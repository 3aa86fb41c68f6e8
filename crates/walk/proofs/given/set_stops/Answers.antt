use Rattle.walk.proofs.Handed.{setting_begins, setting_goes_on, setting_ends, pin_in, stop_at, met_low}
use native.Mathlib.Omega.{arith}
use lib.ListN.{get_or}
use Prim.Native.Nat.{◌<◌, ◌≤◌}
use Rattle.walk.proofs.given.set_stops.Goals as goal

pub word-met-requires : goal.word-met-requires
word-met-requires c = search stop_at

pub loop-p-preserved : goal.loop-p-preserved
loop-p-preserved c = search setting_goes_on

pub bounds-work-at : goal.bounds-work-at
bounds-work-at c = search stop_at
