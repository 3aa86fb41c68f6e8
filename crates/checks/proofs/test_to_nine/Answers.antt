use Rattle.std.proofs.lemmas.Result.{err_from_is_err_and}
use Rattle.checks.proofs.Entry.{nine_fails, nine_told, now_asked}
use Rattle.checks.proofs.test_to_nine.Goals as goal

pub returns-in_err-test_sizes-clause-answer : goal.returns-in_err-test_sizes-clause-answer
returns-in_err-test_sizes-clause-answer c =
    let p = err_from_is_err_and c.from_residual.result c.from_residual.ensures.1 in
    rw (p.1, p.2) (search (nine_fails, c.in_err-test_sizes.ensures))

pub checked_netlist-requires : goal.checked_netlist-requires
checked_netlist-requires c = search (now_asked, c.in_ok-test_sizes.ensures)

pub returns-clause-answer : goal.returns-clause-answer
returns-clause-answer c = search (nine_told, c.in_ok-test_sizes.ensures)
