use lib.ListN.{length-set}
use mathlib.Core.Path.{refl}
use native.Mathlib.Omega.{arith}
use Rattle.words.proofs.Tables.{copy_begins, copy_goes_on, copy_ends}
use Rattle.words.proofs.copy.Goals as goal

pub loop-i-init : goal.loop-i-init
loop-i-init c = (search copy_begins, omega arith, refl)

pub loop-i-preserved : goal.loop-i-preserved
loop-i-preserved c = (search copy_goes_on, omega arith, simp length-set (omega arith))

pub returns : goal.returns
returns c = search copy_ends
