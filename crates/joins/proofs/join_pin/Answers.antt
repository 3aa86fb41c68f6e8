use Rattle.joins.proofs.Joins.{join_high, join_known, join-set, join-low}
use Rattle.joins.proofs.join_pin.Goals as goal

pub returns-then-d-x : goal.returns-then-d-x
returns-then-d-x c = search join_high

pub read_operands-requires : goal.read_operands-requires
read_operands-requires c = record { known = search join_known; u_lt_m = search; set_in = search join-set }

pub returns : goal.returns
returns c = search join-low
