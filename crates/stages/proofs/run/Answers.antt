use mathlib.Core.Path.{sym, ap, ◌∙◌}
use Rattle.stages.proofs.Runs.{run_begins, read_by, run_nothing, run_narrow, run_done, run_goes_on}
use native.Mathlib.Omega.{arith}
use Rattle.stages.proofs.run.Goals as goal
use Rattle.stages.proofs.run.Goals.{else-loop-i-test, then-loop-i-test+else-not-read+in-Ok-r+in-More+else-i-i-end, in-Ok, in-Err}

pub loop-i-init : goal.loop-i-init
loop-i-init c = let a = c.args in run_begins a.g.ends.counts a.g.drivers.now a.g.ends.outputs.now a.g.ends.dffs.now a.g.ends.rams.now a.splits.now a.work.now a.rows.now a.handed.now a.taken.now _ c.requires c.num_endpoint_groups.ensures

pub level_at-b-requires : goal.level_at-b-requires
level_at-b-requires c = c.loop-i.invariant.climb

pub stage-r-requires : goal.stage-r-requires
stage-r-requires c = c.loop-i.invariant.turn

pub returns-then-not-read : goal.returns-then-not-read
returns-then-not-read c = let a = c.args in run_nothing a.g.ends.counts a.g.drivers.now a.g.ends.outputs.now a.g.ends.dffs.now a.g.ends.rams.now a.splits.now a.work.now a.rows.now a.handed.now a.taken.now _ _ _ _ _ _ _ _ _ _ c.loop-i.invariant _ _ c.level_at-b.ensures _ _ _ _ c.stage-r.result c.stage-r.ensures _ (elim c.match-r.branch [ in-Ok w ↦ w.read-is ∙ ap read_by (sym w.in-Ok.is) | in-Err w ↦ w.read-is ∙ ap read_by (sym w.in-Err.is) ]) c.if-not-read.true

pub returns-in_default : goal.returns-in_default
returns-in_default c = let a = c.args in run_narrow a.g.ends.counts a.g.drivers.now a.g.ends.outputs.now a.g.ends.dffs.now a.g.ends.rams.now a.splits.now a.work.now a.rows.now a.handed.now a.taken.now _ _ _ _ _ _ _ _ _ _ c.loop-i.invariant _ _ c.level_at-b.ensures _ _ _ _ _ (rw c.in_default.is at c.stage-r.ensures) _ ((elim c.match-r.branch [ in-Ok w ↦ w.read-is ∙ ap read_by (sym w.in-Ok.is) | in-Err w ↦ w.read-is ∙ ap read_by (sym w.in-Err.is) ]) ∙ ap read_by c.in_default.is) c.if-not-read.false

pub returns-in-Last : goal.returns-in-Last
returns-in-Last c = let a = c.args in run_done a.g.ends.counts a.g.drivers.now a.g.ends.outputs.now a.g.ends.dffs.now a.g.ends.rams.now a.splits.now a.work.now a.rows.now a.handed.now a.taken.now _ _ _ _ _ _ _ _ _ _ c.loop-i.invariant _ _ c.level_at-b.ensures _ _ _ _ _ _ (rw c.in-Last.is at (rw c.in-Ok-r.is at c.stage-r.ensures)) (sym ((elim c.match-r.branch [ in-Ok w ↦ w.read-is ∙ ap read_by (sym w.in-Ok.is) | in-Err w ↦ w.read-is ∙ ap read_by (sym w.in-Err.is) ]) ∙ ap read_by c.in-Ok-r.is) ∙ c.if-not-read.false)

pub loop-i-preserved : goal.loop-i-preserved
loop-i-preserved c = let a = c.args in run_goes_on a.g.ends.counts a.g.drivers.now a.g.ends.outputs.now a.g.ends.dffs.now a.g.ends.rams.now a.splits.now a.work.now a.rows.now a.handed.now a.taken.now _ _ _ _ _ _ _ _ _ _ c.loop-i.invariant _ _ c.level_at-b.ensures _ _ _ _ _ _ (rw c.in-More.is at (rw c.in-Ok-r.is at c.stage-r.ensures)) (sym ((elim c.match-r.branch [ in-Ok w ↦ w.read-is ∙ ap read_by (sym w.in-Ok.is) | in-Err w ↦ w.read-is ∙ ap read_by (sym w.in-Err.is) ]) ∙ ap read_by c.in-Ok-r.is) ∙ c.if-not-read.false)

pub unreachable-requires : goal.unreachable-requires
unreachable-requires c = let a = c.args in elim c.loop-i-test.branch [
  | else-loop-i-test w ↦ omega arith
  | then-loop-i-test+else-not-read+in-Ok-r+in-More+else-i-i-end w ↦ omega (arith, (run_goes_on a.g.ends.counts a.g.drivers.now a.g.ends.outputs.now a.g.ends.dffs.now a.g.ends.rams.now a.splits.now a.work.now a.rows.now a.handed.now a.taken.now _ _ _ _ _ _ _ _ _ _ c.loop-i.invariant _ _ w.level_at-b.ensures _ _ _ _ _ _ (rw w.in-More.is at (rw w.in-Ok-r.is at w.stage-r.ensures)) (sym ((elim w.match-r.branch [ in-Ok v ↦ v.read-is ∙ ap read_by (sym v.in-Ok.is) | in-Err v ↦ v.read-is ∙ ap read_by (sym v.in-Err.is) ]) ∙ ap read_by w.in-Ok-r.is) ∙ w.if-not-read.false)).inside)
]
