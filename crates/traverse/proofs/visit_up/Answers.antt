use Rattle.traverse.proofs.Runs.{up_begins, up_goes_on, up_ends}
use native.Mathlib.Omega.{arith}
use Rattle.traverse.proofs.visit_up.Goals as goal

pub loop-p-init : goal.loop-p-init
loop-p-init c = (search up_begins, omega arith)

pub loop-p-preserved : goal.loop-p-preserved
loop-p-preserved c = (search up_goes_on, omega arith)

pub returns : goal.returns
returns c = search up_ends
