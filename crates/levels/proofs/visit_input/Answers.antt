use Rattle.levels.proofs.Gathers.{input_none, bump_inside, bump_room, bump_going, input_visited}
use Rattle.levels.proofs.visit_input.Goals as goal

pub returns-then-p-eq0 : goal.returns-then-p-eq0
returns-then-p-eq0 c = search input_none

pub bump-requires : goal.bump-requires
bump-requires c = record { at_in_bounds = search bump_inside; at_bound = search bump_room }

pub visit-requires : goal.visit-requires
visit-requires c = record { going = search bump_going; root_lt_m = search }

pub returns : goal.returns
returns c = search input_visited
