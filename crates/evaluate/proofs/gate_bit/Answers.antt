use Rattle.evaluate.proofs.Fillings.{first_in, first_low, second_in, second_low, gate_off, gate_second}
use Rattle.evaluate.proofs.gate_bit.Goals as goal

pub literal_bit-x-requires : goal.literal_bit-x-requires
literal_bit-x-requires c = record { l_in_bounds = search first_in; l_bound = search first_low }

pub literal_bit-y-requires : goal.literal_bit-y-requires
literal_bit-y-requires c = record { l_in_bounds = search second_in; l_bound = search second_low }

pub returns-then-x-eq0 : goal.returns-then-x-eq0
returns-then-x-eq0 c = search gate_off

pub returns-else-x-eq0 : goal.returns-else-x-eq0
returns-else-x-eq0 c = search gate_second
