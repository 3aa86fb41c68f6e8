use Rattle.std.proofs.lemmas.Result.{err_from_is_err_and}
use Rattle.checks.proofs.Chain.{checked_fails, now_fits, now_fresh, checked_readied}
use Rattle.checks.proofs.checked_netlist.Goals as goal

pub returns-in_err-test_tables : goal.returns-in_err-test_tables
returns-in_err-test_tables c =
    let p = err_from_is_err_and c.from_residual.result c.from_residual.ensures.1 in
    rw (p.1, p.2) (search (checked_fails, c.in_err-test_tables.ensures))

pub ready_netlist-requires : goal.ready_netlist-requires
ready_netlist-requires c = record { fits = search (now_fits, c.in_ok-test_tables.ensures); fresh = search now_fresh }

pub returns : goal.returns
returns c = search (checked_readied, c.in_ok-test_tables.ensures)
