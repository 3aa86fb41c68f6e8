use Rattle.fanouts.proofs.Counts.{count_none, first_in, first_low, second_in, second_low, count-both}
use Rattle.fanouts.proofs.count_gate.Goals as goal

pub returns-then-t-ne1 : goal.returns-then-t-ne1
returns-then-t-ne1 c = search count_none

pub count_reader-requires : goal.count_reader-requires
count_reader-requires c = record { l_in_bounds = search first_in; l_bound = search first_low }

pub count_reader-requires-2 : goal.count_reader-requires-2
count_reader-requires-2 c = record { l_in_bounds = search second_in; l_bound = search second_low }

pub returns : goal.returns
returns c = search count-both
