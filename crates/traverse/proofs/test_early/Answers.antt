use Rattle.traverse.proofs.Early.{early_first, early_15, early_none}
use Rattle.std.proofs.lemmas.Result.{err_from_is_err_and}
use Rattle.traverse.proofs.test_early.Goals as goal

pub returns-in_err-test_drivers : goal.returns-in_err-test_drivers
returns-in_err-test_drivers c =
    let p = err_from_is_err_and c.from_residual.result c.from_residual.ensures.1 in
    let q = c.in_err-test_drivers.ensures in
    rw (p.1, p.2) (search early_first)

pub returns-then-not-indexes_fit : goal.returns-then-not-indexes_fit
returns-then-not-indexes_fit c = let q = c.in_ok-test_drivers.ensures in search early_15

pub returns : goal.returns
returns c = let q = c.in_ok-test_drivers.ensures in search early_none
