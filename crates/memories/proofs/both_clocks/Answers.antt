use Rattle.rules.specs.Tables.{netlist_in}
use Rattle.memories.proofs.Remembering.{read_named, write_named, clocks_stop, clocks_going, second_stops, clocks_made_lem}
use Rattle.memories.proofs.both_clocks.Goals as goal

pub clock_activity-requires : goal.clock_activity-requires
clock_activity-requires c = record { going = c.requires.going; cell_in_bounds = c.requires.cell_in_bounds; a_value = search read_named; b_value = search write_named }

pub returns-in_err-first : goal.returns-in_err-first
returns-in_err-first c = let a = c.args in rw c.from_residual.ensures (clocks_stop (netlist_in a.n) a.draft.now a.cell _ c.in_err-first.ensures)

pub clock_activity-requires-2 : goal.clock_activity-requires-2
clock_activity-requires-2 c = let a = c.args in record { going = clocks_going (netlist_in a.n) a.draft.now a.cell _ _ c.in_ok-first.ensures c.requires.going; cell_in_bounds = c.requires.cell_in_bounds; a_value = search read_named; b_value = search write_named }

pub returns-in_err-second : goal.returns-in_err-second
returns-in_err-second c = let a = c.args in rw c.from_residual-in_err-second.ensures (second_stops (netlist_in a.n) a.draft.now a.cell _ _ c.in_ok-first.ensures _ c.in_err-second.ensures)

pub returns : goal.returns
returns c = let a = c.args in clocks_made_lem (netlist_in a.n) a.draft.now a.cell _ _ c.in_ok-first.ensures _ _ c.in_ok-second.ensures
