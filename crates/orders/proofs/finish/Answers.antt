use native.Mathlib.Omega.{arith}
use borrow.Author.Rules.{rules}
use Rattle.std.proofs.lemmas.Result.{err_from_is_err_and}
use Rattle.orders.proofs.Runs.{run_begins, run_ends, run_finds, run_goes_on, run_falls}
use Rattle.orders.proofs.finish.Goals as goal

pub loop-at-init : goal.loop-at-init
loop-at-init c = (search run_begins, search rules)

pub returns-in_err-at : goal.returns-in_err-at
returns-in_err-at c =
    let p = err_from_is_err_and c.from_residual.result c.from_residual.ensures.1 in
    rw (p.1, p.2) (search (run_finds, c.in_err-at.ensures))

pub loop-at-preserved : goal.loop-at-preserved
loop-at-preserved c = (search (run_goes_on, c.in_ok-at.ensures), omega arith)

pub loop-at-smaller : goal.loop-at-smaller
loop-at-smaller c = search (run_falls, c.in_ok-at.ensures)

pub returns : goal.returns
returns c = search run_ends
