use Rattle.levels.proofs.Gathers.{ins_begin, ins_going, ins_number, ins_pin, ins_spare, ins_go_on, ins_end}
use Rattle.levels.proofs.visit_inputs.Goals as goal

pub loop-i-init : goal.loop-i-init
loop-i-init c = search ins_begin

pub read_pin-p-requires : goal.read_pin-p-requires
read_pin-p-requires c = record { lent = search; e_bound = search; i_bound = search ins_number }

pub visit_input-k-requires : goal.visit_input-k-requires
visit_input-k-requires c = record { going = search ins_going; p_lt_m = search ins_pin; spare = search ins_spare }

pub loop-i-preserved : goal.loop-i-preserved
loop-i-preserved c = search ins_go_on

pub returns : goal.returns
returns c = search ins_end
