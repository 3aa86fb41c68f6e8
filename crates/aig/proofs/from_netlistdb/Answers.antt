use Rattle.std.proofs.lemmas.Result.{err_from_is_err_and}
use Rattle.aig.proofs.Entry.{entry_early, entry_waits, entry_late}
use Rattle.aig.specs.Building.{lent}
use lib.ListN.{length}
use Rattle.aig.proofs.from_netlistdb.Goals as goal

pub returns-in_err-test_sizes : goal.returns-in_err-test_sizes
returns-in_err-test_sizes c =
    let p = err_from_is_err_and c.from_residual.result c.from_residual.ensures.1 in let a = c.args in let n = a.n in
    rw (p.1, p.2) (entry_early a.c a.rooms n.kinds.now n.starts.now n.list.now n.pins.now n.nets.now
    (lent a.drivers.now a.outputs.now a.dffs.now a.rams.now a.literals.now a.fanout_starts.now a.fanouts.now) (length a.work.now) _ _ _ _ _ _ _ _ c.clear.ensures c.zero.ensures
    _ c.in_err-test_sizes.ensures)

pub build_asked-answer-requires : goal.build_asked-answer-requires
build_asked-answer-requires c =
    let a = c.args in let n = a.n in
    entry_waits a.c a.rooms n.kinds.now n.starts.now n.list.now n.pins.now n.nets.now
    (lent a.drivers.now a.outputs.now a.dffs.now a.rams.now a.literals.now a.fanout_starts.now a.fanouts.now) (length a.work.now) _ _ _ _ _ _ _ _ c.clear.ensures c.zero.ensures
    _ c.in_ok-test_sizes.ensures

pub returns : goal.returns
returns c =
    let a = c.args in let n = a.n in
    entry_late a.c a.rooms n.kinds.now n.starts.now n.list.now n.pins.now n.nets.now
    (lent a.drivers.now a.outputs.now a.dffs.now a.rams.now a.literals.now a.fanout_starts.now a.fanouts.now) (length a.work.now) _ _ _ _ _ _ _ _ c.clear.ensures c.zero.ensures
    _ c.in_ok-test_sizes.ensures _ _ _ _ c.build_asked-answer.ensures c.zero-2.ensures
