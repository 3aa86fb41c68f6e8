use Rattle.fanouts.proofs.Places.{gate-none, at_first, some_first, room_first, at_second, some_second, room_second, gate-both}
use Rattle.fanouts.proofs.put_gate.Goals as goal

pub returns-then-t-ne1 : goal.returns-then-t-ne1
returns-then-t-ne1 c = search gate-none

pub put_reader-requires : goal.put_reader-requires
put_reader-requires c = record { l_in_bounds = search at_first; nonzero = search some_first; l_in_bounds_2 = search room_first }

pub put_reader-requires-2 : goal.put_reader-requires-2
put_reader-requires-2 c = record { l_in_bounds = search at_second; nonzero = search some_second; l_in_bounds_2 = search room_second }

pub returns : goal.returns
returns c = search gate-both
