use Rattle.splits.proofs.Cuts.{cut_known, cut_set}
use Rattle.splits.proofs.Ends.{cut_lefts, cut_narrow, cut_count, cut_takens, cut_hand_set, cut_done, cut_full}
use Rattle.splits.proofs.cut.Goals as goal

pub take_all-requires : goal.take_all-requires
take_all-requires c = let a = c.args in record { lent = c.requires.lent; reads_fit = c.requires.reads_fit; lefts = cut_lefts a.g.ends.counts a.g.drivers.now a.g.ends.outputs.now a.g.ends.dffs.now a.g.ends.rams.now a.at a.work.now a.handed.now a.taken.now c.requires.idle _ _ c.gather-k.ensures; fact = c.requires.fact_2 }

pub returns-in_default : goal.returns-in_default
returns-in_default c = let a = c.args in cut_narrow a.g.ends.counts a.g.drivers.now a.g.ends.outputs.now a.g.ends.dffs.now a.g.ends.rams.now a.at a.work.now a.handed.now a.taken.now c.requires.idle _ _ c.gather-k.ensures _ c.in_default.ensures

pub overflow_sub-count : goal.overflow_sub-count
overflow_sub-count c = let a = c.args in cut_count a.g.ends.counts a.g.drivers.now a.g.ends.outputs.now a.g.ends.dffs.now a.g.ends.rams.now a.at a.work.now a.handed.now a.taken.now c.requires.idle _ _ c.gather-k.ensures _ _ c.in-Some.ensures

pub work_out-size-requires : goal.work_out-size-requires
work_out-size-requires c = let a = c.args in record {
  lent = c.requires.lent;
  reads_fit = c.requires.reads_fit;
  takens = cut_takens a.g.ends.counts a.g.drivers.now a.g.ends.outputs.now a.g.ends.dffs.now a.g.ends.rams.now a.at a.work.now a.handed.now a.taken.now c.requires.idle _ _ c.gather-k.ensures _ _ c.in-Some.ensures;
  known = cut_known a.g.ends.counts a.g.drivers.now a.g.ends.outputs.now a.g.ends.dffs.now a.g.ends.rams.now a.at.m a.at.d a.work.now a.at.left c.requires.idle _ _ c.gather-k.ensures;
  going = c.gather-k.ensures.going;
  set_in = cut_set a.g.ends.counts a.g.drivers.now a.g.ends.outputs.now a.g.ends.dffs.now a.g.ends.rams.now a.at.m a.at.d a.work.now a.at.left c.requires.idle _ _ c.gather-k.ensures;
}

pub hand_on-requires : goal.hand_on-requires
hand_on-requires c = let a = c.args in record { set_in = cut_hand_set a.g.ends.counts a.g.drivers.now a.g.ends.outputs.now a.g.ends.dffs.now a.g.ends.rams.now a.at a.work.now a.handed.now a.taken.now c.requires.idle _ _ c.gather-k.ensures _ _ c.in-Some.ensures _ _ c.work_out-size.ensures; fact = c.requires.fact }

pub returns-in_default-hand_on : goal.returns-in_default-hand_on
returns-in_default-hand_on c = let a = c.args in cut_full a.g.ends.counts a.g.drivers.now a.g.ends.outputs.now a.g.ends.dffs.now a.g.ends.rams.now a.at a.work.now a.handed.now a.taken.now c.requires.idle _ _ c.gather-k.ensures _ _ c.in-Some.ensures _ _ c.work_out-size.ensures _ c.in_default-hand_on.ensures

pub returns : goal.returns
returns c = let a = c.args in cut_done a.g.ends.counts a.g.drivers.now a.g.ends.outputs.now a.g.ends.dffs.now a.g.ends.rams.now a.at a.work.now a.handed.now a.taken.now c.requires.idle _ _ c.gather-k.ensures _ _ c.in-Some.ensures _ _ c.work_out-size.ensures _ _ c.in-Some-hand_on.ensures
