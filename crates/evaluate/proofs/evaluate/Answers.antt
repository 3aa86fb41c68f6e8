use Rattle.std.proofs.lemmas.Result.{err_from_is_err_and}
use Rattle.evaluate.proofs.Answers.{refused, begins, accepted}
use Rattle.evaluate.proofs.evaluate.Goals as goal

pub returns-in_err-test_drivers : goal.returns-in_err-test_drivers
returns-in_err-test_drivers c =
    let p = err_from_is_err_and c.from_residual.result c.from_residual.ensures.1 in
    let q = c.in_err-test_drivers.ensures in
    rw (p.1, p.2) (search refused)

pub fill_bits-requires : goal.fill_bits-requires
fill_bits-requires c = let q = c.in_ok-test_drivers.ensures in search begins

pub returns : goal.returns
returns c = let q = c.in_ok-test_drivers.ensures in search accepted
