use Rattle.asked.proofs.Begins.{room_stops, room_two, begin_chosen, chosen_below, begin_before, before-below, begin_stops, begin_set, begin_done}
use borrow.Author.Tests.{not-true, not-false}
use Rattle.asked.proofs.begin.Goals as goal

pub returns-then-not-all_below : goal.returns-then-not-all_below
returns-then-not-all_below c = search (begin_chosen, not-true)

pub returns-then-not-all_below-2 : goal.returns-then-not-all_below-2
returns-then-not-all_below-2 c = search (begin_before, not-true, not-false)

pub set_stops-requires : goal.set_stops-requires
set_stops-requires c = record { all_below = search (before-below, not-false); m_in_bounds = search room_two; stops = search room_stops }

pub returns-then-not-set_stops : goal.returns-then-not-set_stops
returns-then-not-set_stops c = search (begin_stops, not-true, not-false)

pub insert_all-n-requires : goal.insert_all-n-requires
insert_all-n-requires c = record { set_in = begin_set c.args.work.now c.args.m c.args.ends c.requires c.args.before.now _ _ c.set_stops.ensures; all_below = chosen_below c.args.work.now c.args.m c.args.ends c.requires c.args.chosen.now c.args.before.now _ c.all_below.ensures c.if-not-all_below.false }

pub returns : goal.returns
returns c = search (begin_done, not-false)
