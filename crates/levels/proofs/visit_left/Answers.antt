use Rattle.levels.proofs.Gathers.{left_begin, left_going, left_endpoint, left_spare, left_go_on, left_end}
use Rattle.levels.proofs.visit_left.Goals as goal

pub loop-i-init : goal.loop-i-init
loop-i-init c = search left_begin

pub visit_inputs-k-requires : goal.visit_inputs-k-requires
visit_inputs-k-requires c = record { lent = search; reads_fit = search; e_bound = search left_endpoint; going = search left_going; spare = search left_spare }

pub loop-i-preserved : goal.loop-i-preserved
loop-i-preserved c = search left_go_on

pub returns : goal.returns
returns c = search left_end
