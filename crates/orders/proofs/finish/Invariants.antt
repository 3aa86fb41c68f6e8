use Rattle.orders.specs.State.{goes_to}
use Rattle.rules.specs.Tables.{netlist_in}
use lib.ListN.{length}
use mathlib.Core.Path.{◌≡◌}
use Prim.Native.Nat.{◌-◌, ◌*◌}
use Rattle.orders.proofs.Runs.{Running}
use Rattle.orders.proofs.finish.Given as goal

abbrev pub invariant-loop-at : goal.invariant-loop-at
invariant-loop-at l = Running (goes_to (netlist_in l.n)) (length l.n.list.now) l.initial.work l.initial.at.height l.initial.at.count l.work l.at.height l.at.count × (length l.work ≡ length l.initial.work)

abbrev pub decreases-loop-at : goal.decreases-loop-at
decreases-loop-at l = 2 * length l.n.list.now - l.at.count
