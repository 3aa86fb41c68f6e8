use Rattle.std.proofs.lemmas.Result.{err_from_is_err_and}
use Rattle.subsets.proofs.Places.{subset-refused, subset_ready, subset_picked}
use Rattle.std.proofs.lemmas.Result.{err_from_is_err_and}
use Rattle.subsets.proofs.to_endpoint_subset.Goals as goal

pub returns-in_err-test_subset : goal.returns-in_err-test_subset
returns-in_err-test_subset c =
    let p = err_from_is_err_and c.from_residual.result c.from_residual.ensures.1 in
    let q = c.in_err-test_subset.ensures in
    rw (p.1, p.2) (search subset-refused)

pub pick_both-requires : goal.pick_both-requires
pick_both-requires c = let q = c.in_ok-test_subset.ensures in search subset_ready

pub returns : goal.returns
returns c = search subset_picked
