use Rattle.picks.proofs.Pushes.{part_begins, part_open, part_goes_on, part_fails, part_ends, set_below, set-part}
use native.Mathlib.Omega.{arith}
use Rattle.picks.proofs.hand_on.Goals as goal

pub loop-i-init : goal.loop-i-init
loop-i-init c = search (part_begins, set-part)

pub hand_one-requires : goal.hand_one-requires
hand_one-requires c = record { m_in_bounds = omega arith; p_lt_m = search set_below; fact = search part_open }

pub returns-in_err-n : goal.returns-in_err-n
returns-in_err-n c = rw c.from_residual.ensures (search (part_fails, c.in_err-n.ensures))

pub loop-i-preserved : goal.loop-i-preserved
loop-i-preserved c = search (part_goes_on, c.in_ok-n.ensures)

pub returns : goal.returns
returns c = search part_ends
