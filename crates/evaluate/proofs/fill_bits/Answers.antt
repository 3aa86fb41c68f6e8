use Rattle.evaluate.proofs.Fillings.{fills, fills_end}
use native.Mathlib.Omega.{arith}
use mathlib.Core.Path.{◌≡◌}
use Prim.Native.Nat.{◌<◌}
use lib.ListN.{length}
use Rattle.evaluate.proofs.fill_bits.Goals as goal

pub loop-u-init : goal.loop-u-init
loop-u-init c = search

pub pin_bit-v-requires : goal.pin_bit-v-requires
pin_bit-v-requires c = record { filling = search; u_in_bounds = omega arith }

pub loop-u-preserved : goal.loop-u-preserved
loop-u-preserved c = let l : c.loop-u.u < length c.loop-u.bits = omega arith in search fills

pub returns : goal.returns
returns c = let e : c.loop-u.u ≡ length c.args.bits.now = omega arith in search fills_end
