use Rattle.evaluate.proofs.Fillings.{tag_is, constant_bit, source_word}
use Rattle.evaluate.proofs.pin_bit.Goals as goal

pub returns-in-0 : goal.returns-in-0
returns-in-0 c = search constant_bit

pub gate_bit-requires : goal.gate_bit-requires
gate_bit-requires c = record { filling = search; u_in_bounds = search; u_value = search tag_is }

pub returns-in_default : goal.returns-in_default
returns-in_default c = search source_word
