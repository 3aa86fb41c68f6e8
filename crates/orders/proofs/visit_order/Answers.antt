use native.Mathlib.Omega.{arith}
use borrow.Author.Rules.{rules}
use Rattle.std.proofs.lemmas.Result.{err_from_is_err_and}
use Rattle.orders.proofs.Orders.{through_begins, through_goes_on, through_finds, through_ends}
use Rattle.orders.proofs.visit_order.Goals as goal

pub loop-i-init : goal.loop-i-init
loop-i-init c = (search through_begins, search rules)

pub returns-in_err-k : goal.returns-in_err-k
returns-in_err-k c =
    let p = err_from_is_err_and c.from_residual.result c.from_residual.ensures.1 in
    rw (p.1, p.2) (search (through_finds, c.in_err-k.ensures))

pub loop-i-preserved : goal.loop-i-preserved
loop-i-preserved c = (search (through_goes_on, c.in_ok-k.ensures), omega arith)

pub returns : goal.returns
returns c = search through_ends
