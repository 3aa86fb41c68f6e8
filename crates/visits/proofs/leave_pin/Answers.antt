use Rattle.visits.proofs.Leaves.{leave_take, copy_in, leave_copy, port_in, output_in, leave_output, leave_input, first_place, second_place, leave_and, stored-own, leave_flop, read_place, leave_ram}
use mathlib.Core.Path.{refl, ap, ◌∙◌}
use mathlib.Core.List.{List}
use Prim.Native.Nat.{ℕ, ◌+◌, ◌*◌}
use lib.ListN.{length, get_or}
use Rattle.rules.specs.Graph.{opposite_if}
use Rattle.visits.proofs.leave_pin.Goals as goal

pub operand-lit-requires : goal.operand-lit-requires
operand-lit-requires c = rw c.words.ensures (search copy_in)

pub literal_at-lit-requires : goal.literal_at-lit-requires
literal_at-lit-requires c = rw c.words-in-Output.ensures (search port_in)

pub add_output-requires-clause-word_in_bounds : goal.add_output-requires-clause-word_in_bounds
add_output-requires-clause-word_in_bounds c = search (output_in, c.literal_at-lit.ensures ∙ ap (λ (w : List ℕ). get_or w (7 * length c.args.n.list.now + c.in-Output.q) 0) c.words-in-Output.ensures)

pub and_out-requires-clause-a_bound : goal.and_out-requires-clause-a_bound
and_out-requires-clause-a_bound c = search first_place

pub and_out-requires-clause-b_bound : goal.and_out-requires-clause-b_bound
and_out-requires-clause-b_bound c = search second_place

pub stored_out-requires-clause-stored : goal.stored_out-requires-clause-stored
stored_out-requires-clause-stored c = search stored-own

pub make_ram-requires-clause-place_lt_m : goal.make_ram-requires-clause-place_lt_m
make_ram-requires-clause-place_lt_m c = search read_place

pub returns-in-Take : goal.returns-in-Take
returns-in-Take c = record { loans = record { drivers = refl; work = refl; place = refl }; moved = search leave_take }

pub returns-in-Copy : goal.returns-in-Copy
returns-in-Copy c = record { loans = record { drivers = refl; work = refl; place = refl }; moved = search (leave_copy, c.operand-lit.ensures ∙ ap (λ (w : List ℕ). opposite_if c.in-Copy.x (get_or w (7 * length c.args.n.list.now + c.in-Copy.q) 0)) c.words.ensures) }

pub returns-in-Output : goal.returns-in-Output
returns-in-Output c = record { loans = c.add_output.ensures.loans; moved = search (leave_output, c.literal_at-lit.ensures ∙ ap (λ (w : List ℕ). get_or w (7 * length c.args.n.list.now + c.in-Output.q) 0) c.words-in-Output.ensures, c.add_output.ensures.drivers, c.add_output.ensures.made) }

pub returns-in-Input : goal.returns-in-Input
returns-in-Input c = record { loans = c.port_out.ensures.loans; moved = search (leave_input, c.port_out.ensures.left) }

pub returns-in-And : goal.returns-in-And
returns-in-And c = record { loans = c.and_out.ensures.loans; moved = search (leave_and, c.and_out.ensures.left) }

pub returns-in-Flop : goal.returns-in-Flop
returns-in-Flop c = record { loans = c.stored_out.ensures.loans; moved = search (leave_flop, c.stored_out.ensures.left) }

pub returns-in-Ram : goal.returns-in-Ram
returns-in-Ram c = record { loans = c.make_ram.ensures.loans; moved = search (leave_ram, c.make_ram.ensures.made) }
