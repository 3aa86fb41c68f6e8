use Rattle.marks.proofs.Picking.{pick_begins, each_goes_on, each_fails, each_ends}
use borrow.Author.Tests.{not-true, not-false}
use mathlib.Core.Path.{refl}
use Rattle.graphs.proofs.mark_dffs.Goals as goal

pub loop-k-init : goal.loop-k-init
loop-k-init c = search pick_begins

pub returns-then-not-mark_new : goal.returns-then-not-mark_new
returns-then-not-mark_new c = search (each_fails, refl, not-true)

pub loop-k-preserved : goal.loop-k-preserved
loop-k-preserved c = search (each_goes_on, not-false)

pub returns : goal.returns
returns c = search (each_ends, refl)
