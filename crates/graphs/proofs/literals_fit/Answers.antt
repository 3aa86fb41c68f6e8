use Rattle.graphs.proofs.Steps.{outputs_unfit, flops_unfit, memories_unfit}
use borrow.Author.Tests.{not-true, not-false}
use mathlib.Core.Path.{refl}
use Rattle.graphs.proofs.literals_fit.Goals as goal

pub returns-then-not-mark_list : goal.returns-then-not-mark_list
returns-then-not-mark_list c = search (outputs_unfit, not-true, refl)

pub returns-then-not-dff_literals_fit : goal.returns-then-not-dff_literals_fit
returns-then-not-dff_literals_fit c = search (flops_unfit, not-true, not-false, refl)

pub returns : goal.returns
returns c = search (memories_unfit, not-false, refl)
