use native.Mathlib.Omega.{arith}
use mathlib.Core.Path.{refl}
use Rattle.rules.specs.Tables.{netlist_in}
use Rattle.ends.proofs.Ending.{ending_begins, ending_ends, ending_goes_on, ending_fails}
use Rattle.ends.proofs.record_ends.Goals as goal

pub loop-cell-init : goal.loop-cell-init
loop-cell-init c = let a = c.args in (ending_begins (netlist_in a.n) a.draft.now a.dffs.now a.rams.now c.requires.going c.requires.drivers_value c.requires.rams_value c.requires.dffs_value c.requires.nets_in_bounds c.requires.rams_value_2 c.requires.rams_in_bounds, refl, refl)

pub overflow_cast-cell : goal.overflow_cast-cell
overflow_cast-cell c = omega (arith, c.requires.kinds_len_bound)

pub cell_ends-requires : goal.cell_ends-requires
cell_ends-requires c = let i = c.loop-cell.invariant in record { going = i.0.going; cell_in_bounds = omega arith; nets_in_bounds = i.0.records.room; nets_len_bound = i.0.rams_begun; rams_in_bounds = i.0.rams_room; rams_len_bound = omega (arith, i.2, c.requires.rams_len_bound) }

pub returns-in_err-cell_ends : goal.returns-in_err-cell_ends
returns-in_err-cell_ends c = let i = c.loop-cell.invariant in rw c.from_residual.ensures (ending_fails _ _ _ _ _ _ _ _ i.0 (omega arith) c.cell_ends.new.draft _ _ i.1 i.2 c.in_err-cell_ends.ensures)

pub loop-cell-preserved : goal.loop-cell-preserved
loop-cell-preserved c = let i = c.loop-cell.invariant in (ending_goes_on _ _ _ _ _ _ _ _ i.0 (omega arith) c.cell_ends.new.draft _ _ _ c.in_ok-cell_ends.ensures, omega arith, omega arith)

pub returns : goal.returns
returns c = let i = c.loop-cell.invariant in ending_ends _ _ _ _ _ _ _ _ i.0 (omega arith) i.1 i.2
