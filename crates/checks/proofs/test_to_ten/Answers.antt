use Rattle.std.proofs.lemmas.Result.{err_from_is_err_and}
use Rattle.checks.proofs.Entry.{ten_fails, ten_marked, ten_passes}
use Rattle.checks.proofs.test_to_ten.Goals as goal

pub returns-in_err-test_to_nine : goal.returns-in_err-test_to_nine
returns-in_err-test_to_nine c =
    let p = err_from_is_err_and c.from_residual.result c.from_residual.ensures.1 in
    rw (p.1, p.2) (search (ten_fails, c.in_err-test_to_nine.ensures.answer))

pub returns-then-not-markers_right : goal.returns-then-not-markers_right
returns-then-not-markers_right c = search (ten_marked, c.in_ok-test_to_nine.ensures.answer)

pub returns : goal.returns
returns c = search (ten_passes, c.in_ok-test_to_nine.ensures.answer)
