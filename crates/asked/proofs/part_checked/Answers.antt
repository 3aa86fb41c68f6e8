use mathlib.Core.Path.{sym, ap, ◌∙◌}
use Rattle.asked.proofs.Asked.{open_zero, part_room, part_15, part_idle, part_nothing, part_narrow, part_handed, part_taken, part_made, listed_by}
use native.Mathlib.Omega.{arith}
use Rattle.asked.proofs.part_checked.Goals as goal
use Rattle.asked.proofs.part_checked.Goals.{in-Ok, in-Err}

pub begin-requires : goal.begin-requires
begin-requires c = let a = c.args in part_room a.g.ends.counts a.g.drivers.now a.g.ends.outputs.now a.g.ends.dffs.now a.g.ends.rams.now a.chosen.now a.before.now a.level a.handed.now a.taken.now a.work.now c.requires _ c.num_endpoint_groups-ends.ensures

pub returns-then-not-begin : goal.returns-then-not-begin
returns-then-not-begin c = let a = c.args in part_15 a.g.ends.counts a.g.drivers.now a.g.ends.outputs.now a.g.ends.dffs.now a.g.ends.rams.now a.chosen.now a.before.now a.level a.handed.now a.taken.now a.work.now c.requires _ c.num_endpoint_groups-ends.ensures _ _ c.begin.ensures c.if-not-begin.true

pub cut-r-requires : goal.cut-r-requires
cut-r-requires c = let a = c.args in record {
  lent = c.requires.sound.lent;
  reads_fit = c.requires.sound.fit;
  idle = part_idle a.g.ends.counts a.g.drivers.now a.g.ends.outputs.now a.g.ends.dffs.now a.g.ends.rams.now a.chosen.now a.before.now a.level a.handed.now a.taken.now a.work.now c.requires _ c.num_endpoint_groups-ends.ensures _ _ c.begin.ensures c.if-not-begin.false;
  fact = open_zero a.handed.now c.requires.handed_zero;
  fact_2 = open_zero a.taken.now c.requires.taken_zero;
}

pub returns-then-listed-eq0 : goal.returns-then-listed-eq0
returns-then-listed-eq0 c = let a = c.args in part_nothing a.g.ends.counts a.g.drivers.now a.g.ends.outputs.now a.g.ends.dffs.now a.g.ends.rams.now a.chosen.now a.before.now a.level a.handed.now a.taken.now a.work.now c.requires _ c.num_endpoint_groups-ends.ensures _ _ c.begin.ensures c.if-not-begin.false _ _ _ c.cut-r.result c.cut-r.ensures _ (elim c.match-r.branch [ in-Ok w ↦ w.listed-is ∙ ap listed_by (sym w.in-Ok.is) | in-Err w ↦ w.listed-is ∙ ap listed_by (sym w.in-Err.is) ]) c.if-listed-eq0.true _ _ c.zero.ensures c.zero-then-listed-eq0.ensures

pub returns-in_default : goal.returns-in_default
returns-in_default c = let a = c.args in part_narrow a.g.ends.counts a.g.drivers.now a.g.ends.outputs.now a.g.ends.dffs.now a.g.ends.rams.now a.chosen.now a.before.now a.level a.handed.now a.taken.now a.work.now c.requires _ c.num_endpoint_groups-ends.ensures _ _ c.begin.ensures c.if-not-begin.false _ _ _ _ (rw c.in_default.is at c.cut-r.ensures) _ ((elim c.match-r.branch [ in-Ok w ↦ w.listed-is ∙ ap listed_by (sym w.in-Ok.is) | in-Err w ↦ w.listed-is ∙ ap listed_by (sym w.in-Err.is) ]) ∙ ap listed_by c.in_default.is) c.if-listed-eq0.false _ _ c.zero-in_default.ensures c.zero-in_default-2.ensures

pub overflow_cast-result : goal.overflow_cast-result
overflow_cast-result c = let a = c.args in omega (arith, part_handed a.g.ends.counts a.g.drivers.now a.g.ends.outputs.now a.g.ends.dffs.now a.g.ends.rams.now a.chosen.now a.before.now a.level a.handed.now a.taken.now a.work.now c.requires _ c.num_endpoint_groups-ends.ensures _ _ c.begin.ensures c.if-not-begin.false _ _ _ _ (rw c.in-Ok-r.is at c.cut-r.ensures))

pub overflow_cast-result-2 : goal.overflow_cast-result-2
overflow_cast-result-2 c = let a = c.args in omega (arith, part_taken a.g.ends.counts a.g.drivers.now a.g.ends.outputs.now a.g.ends.dffs.now a.g.ends.rams.now a.chosen.now a.before.now a.level a.handed.now a.taken.now a.work.now c.requires _ c.num_endpoint_groups-ends.ensures _ _ c.begin.ensures c.if-not-begin.false _ _ _ _ (rw c.in-Ok-r.is at c.cut-r.ensures))

pub returns : goal.returns
returns c = let a = c.args in part_made a.g.ends.counts a.g.drivers.now a.g.ends.outputs.now a.g.ends.dffs.now a.g.ends.rams.now a.chosen.now a.before.now a.level a.handed.now a.taken.now a.work.now c.requires _ c.num_endpoint_groups-ends.ensures _ _ c.begin.ensures c.if-not-begin.false _ _ _ _ (rw c.in-Ok-r.is at c.cut-r.ensures) _ ((elim c.match-r.branch [ in-Ok w ↦ w.listed-is ∙ ap listed_by (sym w.in-Ok.is) | in-Err w ↦ w.listed-is ∙ ap listed_by (sym w.in-Err.is) ]) ∙ ap listed_by c.in-Ok-r.is) c.if-listed-eq0.false
