use Rattle.clears.proofs.Clearing.{clear_begins, clear_inside, clear_goes_on, clear_ends}
use Rattle.clears.proofs.clear_pins.Goals as goal

pub loop-i-init : goal.loop-i-init
loop-i-init c = search clear_begins

pub clear_pin-requires : goal.clear_pin-requires
clear_pin-requires c = record { m_in_bounds = search; u_lt_m = search clear_inside }

pub loop-i-preserved : goal.loop-i-preserved
loop-i-preserved c = search clear_goes_on

pub returns : goal.returns
returns c = search clear_ends
