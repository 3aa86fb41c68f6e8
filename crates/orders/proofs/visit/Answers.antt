use Prim.Native.Nat.{◌*◌, ◌<◌}
use native.Mathlib.Omega.{arith}
use lib.ListN.{length}
use Rattle.orders.proofs.Runs.{visit_room, visit_again, visit_begins, visit_ends}
use Rattle.orders.proofs.visit.Goals as goal

pub enter_pin-at-requires-clause-count_in_bounds : goal.enter_pin-at-requires-clause-count_in_bounds
enter_pin-at-requires-clause-count_in_bounds c = let a = c.args in let r : a.count < 2 * length a.n.list.now = search visit_room in omega (arith, r)

pub returns-then-mark-ne0 : goal.returns-then-mark-ne0
returns-then-mark-ne0 c = search visit_again

pub finish-requires-clause-going : goal.finish-requires-clause-going
finish-requires-clause-going c = search visit_begins

pub returns : goal.returns
returns c = search visit_ends
