use Rattle.rules.specs.Tables.{netlist_in}
use Rattle.flops.proofs.Flopping.{known}
use Rattle.memories.proofs.Remembering.{begun_room, begun_done, fresh_short, fresh_done, going_more}
use Rattle.memories.proofs.memory.Goals as goal

pub ram_number-number-requires : goal.ram_number-number-requires
ram_number-number-requires c = record { known = known _ c.args.draft.now c.requires.going; cell_in_bounds = c.requires.cell_in_bounds; cell_value = c.requires.cell_value }

pub ram_row-requires : goal.ram_row-requires
ram_row-requires c = record { going = c.requires.going; cell_in_bounds = c.requires.cell_in_bounds; cell_value = c.requires.cell_value; k_in_bounds = begun_room _ _ _ c.ram_number-number.ensures c.args.draft.now _ c.if-number-ne0.true c.requires.nets_len_bound c.requires.rams_in_bounds }

pub returns-then-number-ne0 : goal.returns-then-number-ne0
returns-then-number-ne0 c = begun_done _ _ _ c.ram_number-number.ensures c.args.draft.now _ _ _ _ c.if-number-ne0.true c.ram_row.ensures

pub returns-then-rams-k : goal.returns-then-rams-k
returns-then-rams-k c = fresh_short _ _ _ c.ram_number-number.ensures c.args.draft.now _ c.if-number-ne0.false c.if-rams-k.true

pub ram_row-requires-2 : goal.ram_row-requires-2
ram_row-requires-2 c = let a = c.args in record { going = going_more (netlist_in a.n) a.draft.now _ c.requires.going (search); cell_in_bounds = c.requires.cell_in_bounds; cell_value = c.requires.cell_value; k_in_bounds = c.if-rams-k.false }

pub returns : goal.returns
returns c = let a = c.args in fresh_done (netlist_in a.n) a.cell _ c.ram_number-number.ensures a.draft.now _ c.if-number-ne0.false _ _ _ _ c.if-rams-k.false (search) c.ram_row-2.ensures
