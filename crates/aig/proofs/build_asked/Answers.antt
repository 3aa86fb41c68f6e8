use Rattle.std.proofs.lemmas.Result.{err_from_is_err_and}
use Rattle.aig.proofs.Asking.{asked_away, asked_full}
use Rattle.aig.proofs.build_asked.Goals as goal

pub returns-in_err-prepare : goal.returns-in_err-prepare
returns-in_err-prepare c =
    let p = err_from_is_err_and c.from_residual.result c.from_residual.ensures.1 in let a = c.args in let n = a.n in
    rw (p.1, p.2) (asked_away n.kinds.now n.starts.now n.list.now n.pins.now n.nets.now a.rooms a.work.now a.drivers.now a.outputs.now a.dffs.now a.rams.now a.literals.now a.fanout_starts.now a.fanouts.now c.requires
    _ _ c.in_err-prepare.ensures)

pub returns-in-None : goal.returns-in-None
returns-in-None c =
    let a = c.args in let n = a.n in
    asked_full n.kinds.now n.starts.now n.list.now n.pins.now n.nets.now a.rooms a.work.now a.drivers.now a.outputs.now a.dffs.now a.rams.now a.literals.now a.fanout_starts.now a.fanouts.now c.requires
    _ c.in_ok-prepare.ensures _ _ _ _ _ _ _ _ c.in-None.ensures _ _ _ _ _ _ _ c.clear.ensures
