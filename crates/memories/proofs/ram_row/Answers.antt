use Rattle.rules.specs.Tables.{netlist_in}
use Rattle.activity.proofs.Composing.{adds_open}
use Rattle.memories.proofs.Remembering.{ram_stops, ram_known, ram_then}
use Rattle.memories.proofs.ram_row.Goals as goal

pub returns-in_err-clocks : goal.returns-in_err-clocks
returns-in_err-clocks c = let a = c.args in rw c.from_residual.ensures (ram_stops (netlist_in a.n) a.draft.now a.cell a.k _ _ c.in_err-clocks.ensures)

pub clocked_row-requires : goal.clocked_row-requires
clocked_row-requires c = let a = c.args in let h = c.in_ok-clocks.ensures in record { known = ram_known (netlist_in a.n) a.draft.now a.cell a.k a.rams.now _ _ h c.requires.going; «open» = adds_open _ a.draft.now _ _ h.step; cell_in_bounds = c.requires.cell_in_bounds; k_in_bounds = c.requires.k_in_bounds }

pub returns : goal.returns
returns c = let a = c.args in ram_then (netlist_in a.n) a.draft.now a.cell a.k _ _ _ c.in_ok-clocks.ensures _ _ _ c.clocked_row.ensures
