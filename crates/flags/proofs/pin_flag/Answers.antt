use Rattle.flags.proofs.Passing.{pin_idle, pin_walked, walk-within}
use Rattle.flags.proofs.pin_flag.Goals as goal

pub returns-then-not-clock : goal.returns-then-not-clock
returns-then-not-clock c = search pin_idle

pub end_flag-requires-clause-port_within : goal.end_flag-requires-clause-port_within
end_flag-requires-clause-port_within c =
    let n = c.args.n in
    walk-within n.kinds.now n.starts.now n.list.now n.pins.now n.nets.now c.args.p _ c.requires.fits c.requires.p_in_bounds c.trace_clock_pin-walk.ensures

pub returns : goal.returns
returns c = search pin_walked
