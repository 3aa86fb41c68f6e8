use Rattle.std.proofs.lemmas.Result.{err_from_is_err_and}
use Rattle.prepares.proofs.Preparing.{prepare_fails, prepare_marked, prepare_done}
use Rattle.prepares.proofs.prepare.Goals as goal

pub returns-in_err-checked_netlist : goal.returns-in_err-checked_netlist
returns-in_err-checked_netlist c =
    let p = err_from_is_err_and c.from_residual.result c.from_residual.ensures.1 in
    rw (p.1, p.2) (search (prepare_fails, c.in_err-checked_netlist.ensures))

pub returns-then-not-markers_right : goal.returns-then-not-markers_right
returns-then-not-markers_right c = search (prepare_marked, c.in_ok-checked_netlist.ensures)

pub returns : goal.returns
returns c = search (prepare_done, c.in_ok-checked_netlist.ensures)
