use Rattle.picks.proofs.Pushes.{part_begins, part_open, part_goes_on, part_fails, part_ends, left_below, left-part}
use native.Mathlib.Omega.{arith}
use Rattle.picks.proofs.take_all.Goals as goal

pub loop-i-init : goal.loop-i-init
loop-i-init c = search (part_begins, left-part)

pub take_one-requires : goal.take_one-requires
take_one-requires c = record { lent = search; reads_fit = search; e_bound = search left_below; m_in_bounds = omega arith; fact = search part_open }

pub returns-in_err-n : goal.returns-in_err-n
returns-in_err-n c = rw c.from_residual.ensures (search (part_fails, c.in_err-n.ensures))

pub loop-i-preserved : goal.loop-i-preserved
loop-i-preserved c = search (part_goes_on, c.in_ok-n.ensures)

pub returns : goal.returns
returns c = search part_ends
