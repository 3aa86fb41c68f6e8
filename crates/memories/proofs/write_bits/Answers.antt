use mathlib.Core.Path.{refl}
use native.Mathlib.Omega.{arith}
use lib.ListN.{length-set}
use Rattle.activity.proofs.Composing.{adds_open}
use Rattle.memories.proofs.Remembering.{enabling_begins, enabling_ends, enabling_goes_on, enabling_fails}
use Rattle.memories.proofs.write_bits.Goals as goal

pub loop-i-init : goal.loop-i-init
loop-i-init c = (search enabling_begins, refl)

pub and_of-requires : goal.and_of-requires
and_of-requires c = adds_open _ _ _ _ c.loop-i.invariant.0.steps

pub returns-in_err-lit : goal.returns-in_err-lit
returns-in_err-lit c = rw c.from_residual.ensures (enabling_fails _ _ _ _ _ _ _ _ c.loop-i.invariant.0 (omega arith) _ c.in_err-lit.ensures)

pub loop-i-preserved : goal.loop-i-preserved
loop-i-preserved c = (enabling_goes_on _ _ _ _ _ _ _ _ c.loop-i.invariant.0 (omega arith) _ _ c.in_ok-lit.ensures c.requires.from_in_bounds, simp length-set (omega arith))

pub returns : goal.returns
returns c = search enabling_ends
