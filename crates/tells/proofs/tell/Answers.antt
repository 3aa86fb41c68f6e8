use Rattle.tells.proofs.Telling.{tell_refused, tell_zeroed, tell_roomy, tell_done}
use Rattle.tells.proofs.tell.Goals as goal

pub put_three-requires : goal.put_three-requires
put_three-requires c = record { counts_value = search tell_zeroed; in_bounds = search tell_roomy }

pub returns-then-k-eq0 : goal.returns-then-k-eq0
returns-then-k-eq0 c = search tell_done

pub returns-else-k-eq0 : goal.returns-else-k-eq0
returns-else-k-eq0 c = search tell_refused
