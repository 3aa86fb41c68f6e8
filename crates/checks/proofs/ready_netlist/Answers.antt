use Rattle.std.proofs.lemmas.Result.{err_from_is_err_and}
use Rattle.checks.proofs.Chain.{ready_loops, ready_walked}
use Rattle.checks.proofs.ready_netlist.Goals as goal

pub returns-in_err-visit_order : goal.returns-in_err-visit_order
returns-in_err-visit_order c =
    let p = err_from_is_err_and c.from_residual.result c.from_residual.ensures.1 in
    rw (p.1, p.2) (search (ready_loops, c.in_err-visit_order.ensures))

pub returns : goal.returns
returns c = search (ready_walked, c.in_ok-visit_order.ensures)
