use Rattle.drafts.proofs.Drafting.{loans_refl}
use Rattle.visits.proofs.Enters.{enter_place, enter_flop, enter_idle}
use Rattle.visits.proofs.enter_pin.Goals as goal

pub make_flop-requires-clause-place_lt_m : goal.make_flop-requires-clause-place_lt_m
make_flop-requires-clause-place_lt_m c = search (enter_place, c.in-DffOut.ensures)

pub returns-in-DffOut : goal.returns-in-DffOut
returns-in-DffOut c = record { loans = c.make_flop.ensures.loans; moved = search (enter_flop, c.in-DffOut.ensures, c.make_flop.ensures.made) }

pub returns-in_default : goal.returns-in_default
returns-in_default c = record { loans = loans_refl c.args.draft.now; moved = search (enter_idle, c.in_default.not-DffOut) }
