use Rattle.std.proofs.lemmas.Result.{err_from_is_err_and}
use Rattle.staging.proofs.Entry.{work_zeroed, stages_early, stages_plans, stages_late}
use Rattle.staging.proofs.build_staged_aigs.Goals as goal

pub test_graph-tested-requires : goal.test_graph-tested-requires
test_graph-tested-requires c = let a = c.args in work_zeroed a.g.ends.counts a.g.drivers.now a.g.ends.outputs.now a.g.ends.dffs.now a.g.ends.rams.now a.splits.now a.room a.rows.now a.handed.now a.taken.now a.work.now _ _ _ _ c.zero.ensures c.zero-2.ensures c.zero-3.ensures c.zero-4.ensures

pub returns-in_err-tested : goal.returns-in_err-tested
returns-in_err-tested c = let a = c.args in let p = err_from_is_err_and c.from_residual.result c.from_residual.ensures.1 in
    rw (p.1, p.2) (stages_early a.g.ends.counts a.g.drivers.now a.g.ends.outputs.now a.g.ends.dffs.now a.g.ends.rams.now a.splits.now a.room a.rows.now a.handed.now a.taken.now a.work.now _ _ _ _ c.zero.ensures c.zero-2.ensures c.zero-3.ensures c.zero-4.ensures _ c.levels_fit-levels.ensures _ c.test_graph-tested.ensures _ _ c.test_graph-tested.auto.work c.zero-5.ensures _ c.in_err-tested.was)

pub plan_checked-r-requires : goal.plan_checked-r-requires
plan_checked-r-requires c = let a = c.args in stages_plans a.g.ends.counts a.g.drivers.now a.g.ends.outputs.now a.g.ends.dffs.now a.g.ends.rams.now a.splits.now a.room a.rows.now a.handed.now a.taken.now a.work.now _ _ _ _ c.zero.ensures c.zero-2.ensures c.zero-3.ensures c.zero-4.ensures _ c.levels_fit-levels.ensures _ c.test_graph-tested.ensures _ _ c.test_graph-tested.auto.work c.zero-5.ensures _ c.in_ok-tested.was

pub returns : goal.returns
returns c = let a = c.args in stages_late a.g.ends.counts a.g.drivers.now a.g.ends.outputs.now a.g.ends.dffs.now a.g.ends.rams.now a.splits.now a.room a.rows.now a.handed.now a.taken.now a.work.now _ _ _ _ c.zero.ensures c.zero-2.ensures c.zero-3.ensures c.zero-4.ensures _ c.levels_fit-levels.ensures _ c.test_graph-tested.ensures _ _ c.test_graph-tested.auto.work c.zero-5.ensures _ c.in_ok-tested.was _ _ _ _ _ _ c.plan_checked-r.ensures c.plan_checked-r.auto.work c.zero-6.ensures
