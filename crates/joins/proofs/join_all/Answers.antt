use Rattle.joins.proofs.Joins.{joins_begin, joins_known, joins_set, joins_inside, joins_go_on, joins_end}
use Rattle.joins.proofs.join_all.Goals as goal

pub loop-i-init : goal.loop-i-init
loop-i-init c = search joins_begin

pub join_pin-n-requires : goal.join_pin-n-requires
join_pin-n-requires c = record { known = search joins_known; u_lt_m = search joins_inside; set_in = search joins_set }

pub loop-i-preserved : goal.loop-i-preserved
loop-i-preserved c = search joins_go_on

pub returns : goal.returns
returns c = search joins_end
