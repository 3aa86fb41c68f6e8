use Rattle.roles.proofs.Fitting.{laid}
use Rattle.roles.proofs.Roles.{visit_none, visit_driver, visit_input, visit_and, visit-gate, visit_flop, flop_cell}
use Rattle.roles.proofs.visit_at.Goals as goal

pub cell_entry-requires : goal.cell_entry-requires
cell_entry-requires c = record { laid = search laid; cell_in_bounds = search flop_cell }

pub returns-in-Tied : goal.returns-in-Tied
returns-in-Tied c = search visit_none

pub returns-in-Wire : goal.returns-in-Wire
returns-in-Wire c = search visit_driver

pub returns-in-InvOut : goal.returns-in-InvOut
returns-in-InvOut c = search visit_input

pub returns-in-AndOut : goal.returns-in-AndOut
returns-in-AndOut c = search visit_and

pub returns-in-GateOut : goal.returns-in-GateOut
returns-in-GateOut c = search visit-gate

pub returns-in-DffOut : goal.returns-in-DffOut
returns-in-DffOut c = search visit_flop
