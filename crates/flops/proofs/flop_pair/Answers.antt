use Rattle.rules.specs.Tables.{netlist_in}
use Rattle.activity.proofs.Composing.{adds_open}
use Rattle.flops.proofs.Flopping.{known, clock_named, cell_stops, cell_made}
use borrow.Author.Rules.{rules}
use Rattle.flops.proofs.flop_pair.Goals as goal

pub clock_activity-requires : goal.clock_activity-requires
clock_activity-requires c = let a = c.args in let k = clock_named (netlist_in a.n) a.cell c.requires.cell_value in record { going = c.requires.going; cell_in_bounds = search rules; a_value = k; b_value = k }

pub returns-in_err-clock : goal.returns-in_err-clock
returns-in_err-clock c = let a = c.args in rw c.from_residual.ensures (cell_stops (netlist_in a.n) _ a.cell _ c.in_err-clock.ensures)

pub flop_gates-requires : goal.flop_gates-requires
flop_gates-requires c = adds_open _ _ _ _ c.in_ok-clock.ensures

pub returns : goal.returns
returns c = let a = c.args in cell_made (netlist_in a.n) a.draft.now a.cell c.clock_activity.new.draft _ c.in_ok-clock.ensures c.named_literal-d.result c.named_literal-s.result c.named_literal-r.result (known _ a.draft.now c.requires.going) c.requires.cell_in_bounds c.named_literal-d.ensures c.named_literal-s.ensures c.named_literal-r.ensures _ _ c.flop_gates.ensures
