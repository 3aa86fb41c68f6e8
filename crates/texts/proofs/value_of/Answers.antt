use Rattle.texts.proofs.Bytes.{reckon_begins, reckon_goes_on, reckon_none, reckon_large, reckon_ends}
use native.Mathlib.Omega.{arith}
use Rattle.texts.proofs.value_of.Goals as goal

pub loop-b-init : goal.loop-b-init
loop-b-init c = search reckon_begins

pub returns-then-b-lt48 : goal.returns-then-b-lt48
returns-then-b-lt48 c = search reckon_none

pub returns-then-w-gt4294967295 : goal.returns-then-w-gt4294967295
returns-then-w-gt4294967295 c = search (arith, reckon_large)

pub loop-b-preserved : goal.loop-b-preserved
loop-b-preserved c = search (arith, reckon_goes_on)

pub returns : goal.returns
returns c = search reckon_ends
