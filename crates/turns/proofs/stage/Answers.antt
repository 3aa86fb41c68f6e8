use Rattle.turns.proofs.Turns.{turn_narrow, turn_pins, turn_count, turn_count_few, turn_pins_few, turn_last, turn_last_full, turn_row_full, turn_used, turn_set, turn_handed, turn_taken, turn_more}
use native.Mathlib.Omega.{arith}
use Rattle.turns.proofs.stage.Goals as goal

pub cut_at-requires : goal.cut_at-requires
cut_at-requires c = record { lent = c.requires.sound.lent; reads_fit = c.requires.sound.fit; idle = c.requires.idle; handed_open = c.requires.handed_open; taken_open = c.requires.taken_open }

pub returns-in-Err : goal.returns-in-Err
returns-in-Err c = let a = c.args in turn_narrow a.g.ends.counts a.g.drivers.now a.g.ends.outputs.now a.g.ends.dffs.now a.g.ends.rams.now a.work.now a.rows.now a.handed.now a.taken.now a.at a.upper a.d c.requires _ _ _ _ c.in-Err.ensures

pub overflow_sub-pins : goal.overflow_sub-pins
overflow_sub-pins c = let a = c.args in turn_pins a.g.ends.counts a.g.drivers.now a.g.ends.outputs.now a.g.ends.dffs.now a.g.ends.rams.now a.work.now a.rows.now a.handed.now a.taken.now a.at a.upper a.d c.requires _ _ _ _ c.in-Ok.ensures

pub overflow_sub-count : goal.overflow_sub-count
overflow_sub-count c = let a = c.args in turn_count a.g.ends.counts a.g.drivers.now a.g.ends.outputs.now a.g.ends.dffs.now a.g.ends.rams.now a.work.now a.rows.now a.handed.now a.taken.now a.at a.upper a.d c.requires _ _ _ _ c.in-Ok.ensures

pub overflow_cast-taking : goal.overflow_cast-taking
overflow_cast-taking c = let a = c.args in omega (arith, turn_count_few a.g.ends.counts a.g.drivers.now a.g.ends.outputs.now a.g.ends.dffs.now a.g.ends.rams.now a.work.now a.rows.now a.handed.now a.taken.now a.at a.upper a.d c.requires _ _ _ _ c.in-Ok.ensures)

pub push_row-requires : goal.push_row-requires
push_row-requires c = c.requires.rows_open

pub returns-in_default : goal.returns-in_default
returns-in_default c = let a = c.args in turn_last_full a.g.ends.counts a.g.drivers.now a.g.ends.outputs.now a.g.ends.dffs.now a.g.ends.rams.now a.work.now a.rows.now a.handed.now a.taken.now a.at a.upper a.d c.requires _ _ _ _ c.in-Ok.ensures c.if-pins-eq0.true _ c.in_default.ensures

pub returns-then-pins-eq0 : goal.returns-then-pins-eq0
returns-then-pins-eq0 c = let a = c.args in turn_last a.g.ends.counts a.g.drivers.now a.g.ends.outputs.now a.g.ends.dffs.now a.g.ends.rams.now a.work.now a.rows.now a.handed.now a.taken.now a.at a.upper a.d c.requires _ _ _ _ c.in-Ok.ensures c.if-pins-eq0.true _ _ c.in-Some.ensures

pub overflow_cast-handing : goal.overflow_cast-handing
overflow_cast-handing c = let a = c.args in omega (arith, turn_pins_few a.g.ends.counts a.g.drivers.now a.g.ends.outputs.now a.g.ends.dffs.now a.g.ends.rams.now a.work.now a.rows.now a.handed.now a.taken.now a.at a.upper a.d c.requires _ _ _ _ c.in-Ok.ensures)

pub push_row-requires-2 : goal.push_row-requires-2
push_row-requires-2 c = c.requires.rows_open

pub returns-in_default-push_row : goal.returns-in_default-push_row
returns-in_default-push_row c = let a = c.args in turn_row_full a.g.ends.counts a.g.drivers.now a.g.ends.outputs.now a.g.ends.dffs.now a.g.ends.rams.now a.work.now a.rows.now a.handed.now a.taken.now a.at a.upper a.d c.requires _ _ _ _ c.in-Ok.ensures _ c.in_default-push_row.ensures

pub settle-left-requires : goal.settle-left-requires
settle-left-requires c = let a = c.args in record {
  used = turn_used a.g.ends.counts a.g.drivers.now a.g.ends.outputs.now a.g.ends.dffs.now a.g.ends.rams.now a.work.now a.rows.now a.handed.now a.taken.now a.at a.upper a.d c.requires _ _ _ _ c.in-Ok.ensures;
  set_in = turn_set a.g.ends.counts a.g.drivers.now a.g.ends.outputs.now a.g.ends.dffs.now a.g.ends.rams.now a.work.now a.rows.now a.handed.now a.taken.now a.at a.upper a.d c.requires _ _ _ _ c.in-Ok.ensures _ c.num_endpoint_groups-ends.ensures;
  takens = turn_handed a.g.ends.counts a.g.drivers.now a.g.ends.outputs.now a.g.ends.dffs.now a.g.ends.rams.now a.work.now a.rows.now a.handed.now a.taken.now a.at a.upper a.d c.requires _ _ _ _ c.in-Ok.ensures _ c.num_endpoint_groups-ends.ensures;
  takens_2 = turn_taken a.g.ends.counts a.g.drivers.now a.g.ends.outputs.now a.g.ends.dffs.now a.g.ends.rams.now a.work.now a.rows.now a.handed.now a.taken.now a.at a.upper a.d c.requires _ _ _ _ c.in-Ok.ensures _ c.num_endpoint_groups-ends.ensures;
}

pub returns : goal.returns
returns c = let a = c.args in turn_more a.g.ends.counts a.g.drivers.now a.g.ends.outputs.now a.g.ends.dffs.now a.g.ends.rams.now a.work.now a.rows.now a.handed.now a.taken.now a.at a.upper a.d c.requires _ _ _ _ c.in-Ok.ensures _ c.num_endpoint_groups-ends.ensures c.if-pins-eq0.false _ _ c.settle-left.ensures _ _ c.in-Some-push_row.ensures
