use Rattle.members.proofs.Loops.{fill_begins, fill_goes_on, fill_ends}
use native.Mathlib.Omega.{arith}
use Rattle.members.proofs.fill_up.Goals as goal

pub loop-i-init : goal.loop-i-init
loop-i-init c = search fill_begins

pub insert-n-requires : goal.insert-n-requires
insert-n-requires c = record { set_in = search; x_lt_cap = omega arith }

pub loop-i-preserved : goal.loop-i-preserved
loop-i-preserved c = search fill_goes_on

pub returns : goal.returns
returns c = search fill_ends
