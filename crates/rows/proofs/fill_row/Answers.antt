use lib.ListN.{length-set}
use mathlib.Core.Path.{refl}
use native.Mathlib.Omega.{arith}
use Rattle.words.proofs.Tables.{writing_begins}
use Rattle.rows.proofs.Filling.{row_goes_on, row_ends}
use Rattle.rows.proofs.fill_row.Goals as goal

pub loop-j-init : goal.loop-j-init
loop-j-init c = (search writing_begins, omega arith, refl)

pub loop-j-preserved : goal.loop-j-preserved
loop-j-preserved c = (search row_goes_on, omega arith, simp length-set (omega arith))

pub returns : goal.returns
returns c = search row_ends
