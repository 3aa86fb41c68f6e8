use Rattle.orders.specs.State.{goes_to}
use Rattle.rules.specs.Tables.{netlist_in}
use lib.ListN.{length}
use mathlib.Core.Path.{◌≡◌}
use Rattle.orders.proofs.Orders.{GoingThrough}
use Rattle.orders.proofs.visit_order.Given as goal

abbrev pub invariant-loop-i : goal.invariant-loop-i
invariant-loop-i l = GoingThrough (goes_to (netlist_in l.n)) (length l.n.list.now) l.initial.work l.work l.i l.k × (length l.work ≡ length l.initial.work)
