use Rattle.std.proofs.Common.{◌≤◌}
use Rattle.std.proofs.lemmas.Result.{err_from_is_err_and}
use Rattle.subsets.proofs.Full.{full_refused, full_zeroed, full_fits, full_few, full_made}
use native.Mathlib.Omega.{arith}
use Rattle.std.proofs.Common.{◌≤◌}
use Rattle.std.proofs.lemmas.Result.{err_from_is_err_and}
use Rattle.subsets.proofs.from_full_aig.Goals as goal

pub returns-in_err-test_full : goal.returns-in_err-test_full
returns-in_err-test_full c =
    let p = err_from_is_err_and c.from_residual.result c.from_residual.ensures.1 in
    let q = c.in_err-test_full.ensures in
    rw (p.1, p.2) (search full_refused)

pub count_up-requires : goal.count_up-requires
count_up-requires c = let q = c.in_ok-test_full.ensures in record { to_value = search full_zeroed; n_in_bounds = search full_fits; n_bound = search full_few }

pub overflow_cast-result : goal.overflow_cast-result
overflow_cast-result c = let q = c.in_ok-test_full.ensures in let h : c.num_endpoint_groups-n.result ≤ 3145728 = search full_few in omega arith

pub returns : goal.returns
returns c = let q = c.in_ok-test_full.ensures in search full_made
