use Rattle.picks.proofs.Lows.{low_begins, low-number, low_pin, low_goes_on, low_fails, low_ends}
use Rattle.picks.proofs.inputs_low.Goals as goal

pub loop-i-init : goal.loop-i-init
loop-i-init c = search low_begins

pub read_pin-p-requires : goal.read_pin-p-requires
read_pin-p-requires c = record { lent = search; e_bound = search; i_bound = search low-number }

pub low_input-low-requires : goal.low_input-low-requires
low_input-low-requires c = record { m_in_bounds = search; p_lt_m = search low_pin }

pub returns-then-not-low : goal.returns-then-not-low
returns-then-not-low c = search low_fails

pub loop-i-preserved : goal.loop-i-preserved
loop-i-preserved c = search low_goes_on

pub returns : goal.returns
returns c = search low_ends
