use Rattle.fanouts.proofs.Places.{roomy, places_go_on, places_end}
use native.Mathlib.Omega.{arith}
use Rattle.fanouts.proofs.put_readers.Goals as goal

pub loop-u-init : goal.loop-u-init
loop-u-init c = search

pub put_gate-requires : goal.put_gate-requires
put_gate-requires c = record { u_in_bounds = omega arith; u_bound = omega arith; roomy = search roomy }

pub loop-u-preserved : goal.loop-u-preserved
loop-u-preserved c = search places_go_on

pub returns : goal.returns
returns c = search places_end
