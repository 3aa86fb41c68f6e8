use Rattle.reads.proofs.Numbers.{read_output, dff_inside, dff_number, read_dff, ram_inside, ram_number, read_ram}
use Rattle.reads.proofs.read_word.Goals as goal

pub returns-then-e-first : goal.returns-then-e-first
returns-then-e-first c = search read_output

pub dff_word-requires : goal.dff_word-requires
dff_word-requires c = record { k_in_bounds = search dff_inside; i_bound = search dff_number }

pub returns-then-k-second : goal.returns-then-k-second
returns-then-k-second c = search read_dff

pub ram_word-requires : goal.ram_word-requires
ram_word-requires c = record { k_in_bounds = search ram_inside; i_bound = search ram_number }

pub returns : goal.returns
returns c = search read_ram
