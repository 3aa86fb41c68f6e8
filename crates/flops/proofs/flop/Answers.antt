use Rattle.rules.specs.Tables.{netlist_in}
use Rattle.flops.proofs.Flopping.{known, record_room, flop_stops, flop_made_lem}
use Rattle.flops.proofs.flop.Goals as goal

pub flop_place-k-requires : goal.flop_place-k-requires
flop_place-k-requires c = record { known = search (known, c.requires.going); cell_in_bounds = c.requires.cell_in_bounds; cell_value = c.requires.cell_value }

pub flop_pin-pin-requires : goal.flop_pin-pin-requires
flop_pin-pin-requires c = record { known = search (known, c.requires.going); cell_in_bounds = c.requires.cell_in_bounds; cell_value = c.requires.cell_value }

pub returns-in_err-pair : goal.returns-in_err-pair
returns-in_err-pair c = let a = c.args in rw c.from_residual.ensures (flop_stops (netlist_in a.n) _ a.cell _ _ c.in_err-pair.ensures)

pub put_record-requires : goal.put_record-requires
put_record-requires c = record_room _ _ _ (known (netlist_in c.args.n) c.args.draft.now c.requires.going) c.requires.cell_in_bounds c.requires.cell_value _ _ c.requires.nets_in_bounds c.flop_place-k.ensures

pub returns : goal.returns
returns c = let a = c.args in flop_made_lem (netlist_in a.n) a.draft.now a.cell _ c.flop_pair.new.draft _ _ _ c.in_ok-pair.ensures c.flop_place-k.ensures c.flop_pin-pin.ensures _ c.put_record.ensures
