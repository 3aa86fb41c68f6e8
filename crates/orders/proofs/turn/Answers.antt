use Rattle.std.proofs.lemmas.Result.{err_from_is_err_and}
use Rattle.orders.proofs.Steps.{top_inside, pin_inside, room_left, step_loops, step_left, step_entered}
use Rattle.orders.proofs.turn.Goals as goal

pub look-requires-clause-p_in_bounds : goal.look-requires-clause-p_in_bounds
look-requires-clause-p_in_bounds c = search top_inside

pub returns-in_err-found : goal.returns-in_err-found
returns-in_err-found c =
    let p = err_from_is_err_and c.from_residual.result c.from_residual.ensures.1 in
    rw (p.1, p.2) (search (step_loops, c.in_err-found.ensures))

pub enter_pin-requires-clause-q_lt_m : goal.enter_pin-requires-clause-q_lt_m
enter_pin-requires-clause-q_lt_m c = let s = rw c.in-Some.is at c.in_ok-found.ensures in search (pin_inside, s)

pub enter_pin-requires-clause-height_lt_m : goal.enter_pin-requires-clause-height_lt_m
enter_pin-requires-clause-height_lt_m c = let s = rw c.in-Some.is at c.in_ok-found.ensures in search (room_left, s)

pub leave_pin-requires-clause-p_lt_m : goal.leave_pin-requires-clause-p_lt_m
leave_pin-requires-clause-p_lt_m c = search top_inside

pub returns-in-Some : goal.returns-in-Some
returns-in-Some c = let s = rw c.in-Some.is at c.in_ok-found.ensures in search (step_entered, s)

pub returns-in-None : goal.returns-in-None
returns-in-None c = let s = rw c.in-None.is at c.in_ok-found.ensures in search (step_left, s)
