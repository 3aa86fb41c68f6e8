use Rattle.subsets.proofs.Places.{lead_within, leading_le, places_15, places_15_order, places_11, places_11_taken, places_0}
use borrow.Author.Tests.{not-true, not-false}
use native.Mathlib.Omega.{arith}
use Rattle.subsets.proofs.test_places.Goals as goal

pub overflow_sub-rest : goal.overflow_sub-rest
overflow_sub-rest c = omega (arith, leading_le c.args.handed c.args.is.now)

pub returns-then-not-all_below : goal.returns-then-not-all_below
returns-then-not-all_below c = search (places_15, not-true)

pub all_from-requires : goal.all_from-requires
all_from-requires c = search lead_within

pub returns-then-not-all_from : goal.returns-then-not-all_from
returns-then-not-all_from c = search (places_15_order, not-true, not-false)

pub returns-then-handed_room-n : goal.returns-then-handed_room-n
returns-then-handed_room-n c = search (places_11, not-false)

pub returns-then-taken_room-rest : goal.returns-then-taken_room-rest
returns-then-taken_room-rest c = search (places_11_taken, not-false)

pub returns : goal.returns
returns c = search (places_0, not-false)
