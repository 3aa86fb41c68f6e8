use Rattle.orders.specs.State.{goes_to}
use Rattle.rules.specs.Tables.{netlist_in}
use lib.ListN.{length}
use Prim.Native.Nat.{◌+◌, ◌-◌}
use Rattle.orders.proofs.Looking.{Looking}
use Rattle.orders.proofs.look.Given as goal

abbrev pub invariant-loop-q : goal.invariant-loop-q
invariant-loop-q l = Looking (goes_to (netlist_in l.n) l.p) l.work (length l.n.list.now + 2) l.k

abbrev pub decreases-loop-q : goal.decreases-loop-q
decreases-loop-q l = length (goes_to (netlist_in l.n) l.p) - l.k
