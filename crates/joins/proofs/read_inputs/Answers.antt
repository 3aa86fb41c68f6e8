use Rattle.joins.proofs.Reading.{ins_begin, ins_set, ins_number, ins_pin, ins_go_on, ins_end}
use Rattle.joins.proofs.read_inputs.Goals as goal

pub loop-i-init : goal.loop-i-init
loop-i-init c = search ins_begin

pub read_pin-p-requires : goal.read_pin-p-requires
read_pin-p-requires c = record { lent = search; e_bound = search; i_bound = search ins_number }

pub read_input-n-requires : goal.read_input-n-requires
read_input-n-requires c = record { set_in = search ins_set; p_lt_m = search ins_pin }

pub loop-i-preserved : goal.loop-i-preserved
loop-i-preserved c = search ins_go_on

pub returns : goal.returns
returns c = search ins_end
