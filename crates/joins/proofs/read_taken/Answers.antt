use Rattle.joins.proofs.Reading.{taken_begin, taken_set, taken_endpoint, taken_go_on, taken_end}
use Rattle.joins.proofs.read_taken.Goals as goal

pub loop-i-init : goal.loop-i-init
loop-i-init c = search taken_begin

pub read_inputs-n-requires : goal.read_inputs-n-requires
read_inputs-n-requires c = record { lent = search; reads_fit = search; e_bound = search taken_endpoint; set_in = search taken_set }

pub loop-i-preserved : goal.loop-i-preserved
loop-i-preserved c = search taken_go_on

pub returns : goal.returns
returns c = search taken_end
