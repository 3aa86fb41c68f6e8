use mathlib.Core.Path.{refl}
use native.Mathlib.Omega.{arith}
use Rattle.rules.specs.Tables.{netlist_in}
use Rattle.ends.specs.Ended.{flopped, remembered}
use Rattle.ends.proofs.Ending.{kind_dff, kind_ram, cell_passed}
use Rattle.ends.proofs.cell_ends.Goals as goal

pub flop-requires : goal.flop-requires
flop-requires c = let a = c.args in record { going = c.requires.going; cell_in_bounds = c.requires.cell_in_bounds; cell_value = kind_dff (netlist_in a.n) a.cell (omega arith) (omega arith); nets_in_bounds = c.requires.nets_in_bounds }

pub returns-in-8 : goal.returns-in-8
returns-in-8 c = let a = c.args in flopped (kind_dff (netlist_in a.n) a.cell (omega arith) (omega arith)) c.flop.ensures refl

pub memory-requires : goal.memory-requires
memory-requires c = let a = c.args in record { going = c.requires.going; cell_in_bounds = c.requires.cell_in_bounds; cell_value = kind_ram (netlist_in a.n) a.cell c.in-11.is; nets_len_bound = c.requires.nets_len_bound; rams_in_bounds = c.requires.rams_in_bounds; rams_len_bound = c.requires.rams_len_bound }

pub returns-in-11 : goal.returns-in-11
returns-in-11 c = let a = c.args in remembered (kind_ram (netlist_in a.n) a.cell c.in-11.is) c.memory.ensures refl

pub returns-in_default : goal.returns-in_default
returns-in_default c = let a = c.args in cell_passed (netlist_in a.n) a.cell a.draft.now _ _ _ (λ e. omega arith) (λ e. omega arith) (λ e. omega arith)

pub returns-in_default-2 : goal.returns-in_default-2
returns-in_default-2 c = let a = c.args in cell_passed (netlist_in a.n) a.cell a.draft.now _ _ _ (λ e. omega arith) (λ e. omega arith) (λ e. omega arith)
