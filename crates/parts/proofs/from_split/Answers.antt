use Rattle.std.proofs.lemmas.Result.{err_from_is_err_and}
use Rattle.parts.proofs.Entry.{work_zeroed, split_early, split_parts, split_late}
use Rattle.parts.proofs.from_split.Goals as goal

pub test_graph-tested-requires : goal.test_graph-tested-requires
test_graph-tested-requires c = let a = c.args in work_zeroed a.g.ends.counts a.g.drivers.now a.g.ends.outputs.now a.g.ends.dffs.now a.g.ends.rams.now a.chosen.now a.before.now a.level a.handed.now a.taken.now a.work.now _ _ _ c.zero.ensures c.zero-2.ensures c.zero-3.ensures

pub returns-in_err-tested : goal.returns-in_err-tested
returns-in_err-tested c = let a = c.args in let p = err_from_is_err_and c.from_residual.result c.from_residual.ensures.1 in
    rw (p.1, p.2) (split_early a.g.ends.counts a.g.drivers.now a.g.ends.outputs.now a.g.ends.dffs.now a.g.ends.rams.now a.chosen.now a.before.now a.level a.handed.now a.taken.now a.work.now _ _ _ c.zero.ensures c.zero-2.ensures c.zero-3.ensures _ c.lists_fit-lists.ensures _ c.test_graph-tested.ensures _ _ c.test_graph-tested.auto.work c.zero-4.ensures _ c.in_err-tested.was)

pub part_checked-r-requires : goal.part_checked-r-requires
part_checked-r-requires c = let a = c.args in split_parts a.g.ends.counts a.g.drivers.now a.g.ends.outputs.now a.g.ends.dffs.now a.g.ends.rams.now a.chosen.now a.before.now a.level a.handed.now a.taken.now a.work.now _ _ _ c.zero.ensures c.zero-2.ensures c.zero-3.ensures _ c.lists_fit-lists.ensures _ c.test_graph-tested.ensures _ _ c.test_graph-tested.auto.work c.zero-4.ensures _ c.in_ok-tested.was

pub returns : goal.returns
returns c = let a = c.args in split_late a.g.ends.counts a.g.drivers.now a.g.ends.outputs.now a.g.ends.dffs.now a.g.ends.rams.now a.chosen.now a.before.now a.level a.handed.now a.taken.now a.work.now _ _ _ c.zero.ensures c.zero-2.ensures c.zero-3.ensures _ c.lists_fit-lists.ensures _ c.test_graph-tested.ensures _ _ c.test_graph-tested.auto.work c.zero-4.ensures _ c.in_ok-tested.was _ _ _ _ _ c.part_checked-r.ensures c.part_checked-r.auto.work c.zero-5.ensures
