use Rattle.clocks.proofs.Steps.{driver_inside, pin_other, inv_inside, buf_inside, gate_inside, driver_gate, gates_few, cell_falls, pin_falls, fewer_left}
use borrow.Author.Rules.{rules}
use Rattle.clocks.proofs.+driver_walk_pin_walk.Goals as goal

pub driver_walk-pin_walk-requires : goal.driver_walk-pin_walk-requires
driver_walk-pin_walk-requires t c = (search cell_falls, (search rules, (search inv_inside, search fewer_left)))

pub driver_walk-pin_walk-requires-in-BufOut : goal.driver_walk-pin_walk-requires-in-BufOut
driver_walk-pin_walk-requires-in-BufOut t c = (search cell_falls, (search rules, (search buf_inside, search fewer_left)))

pub driver_walk-pin_walk-walk-requires : goal.driver_walk-pin_walk-walk-requires
driver_walk-pin_walk-walk-requires t c = (search cell_falls, (search rules, (search gate_inside, search fewer_left)))

pub driver_walk-passed-requires : goal.driver_walk-passed-requires
driver_walk-passed-requires t c = search gates_few

pub driver_walk-returns-in-GateOut : goal.driver_walk-returns-in-GateOut
driver_walk-returns-in-GateOut t c = search driver_gate

pub pin_walk-driver_walk-requires : goal.pin_walk-driver_walk-requires
pin_walk-driver_walk-requires t c = (search pin_falls, (search rules, (search driver_inside, search rules)))

pub pin_walk-returns-in_default : goal.pin_walk-returns-in_default
pin_walk-returns-in_default t c = search pin_other
