use Rattle.std.proofs.lemmas.Result.{err_from_is_err_and}
use Rattle.texts.proofs.Lines.{going_begins, going_fits, going_on, going_breaks, going_ends}
use Rattle.texts.proofs.read_lines.Goals as goal

pub loop-at-init : goal.loop-at-init
loop-at-init c = search going_begins

pub line-requires : goal.line-requires
line-requires c = search going_fits

pub returns-in_err-r : goal.returns-in_err-r
returns-in_err-r c =
    let p = err_from_is_err_and c.from_residual.result c.from_residual.ensures.1 in
    rw (p.1, p.2) (going_breaks _ _ _ _ _ _ _ c.loop-at.invariant c.requires _ c.loop-at-test.true c.until-e.ensures _ _ _ c.line.ensures _ c.in_err-r.was)

pub loop-at-preserved : goal.loop-at-preserved
loop-at-preserved c = going_on _ _ _ _ _ _ _ c.loop-at.invariant c.requires _ c.loop-at-test.true c.until-e.ensures _ _ _ c.line.ensures _ c.in_ok-r.was

pub returns : goal.returns
returns c = search going_ends
