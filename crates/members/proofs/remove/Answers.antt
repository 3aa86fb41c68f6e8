use Rattle.members.proofs.Changes.{remove_again, remove-size, hole_inside, remove_leaves}
use Rattle.members.proofs.remove.Goals as goal

pub returns-then-place-eq0 : goal.returns-then-place-eq0
returns-then-place-eq0 c = search remove_again

pub overflow_sub-fewer : goal.overflow_sub-fewer
overflow_sub-fewer c = search remove-size

pub returns : goal.returns
returns c = search remove_leaves

pub bounds-work-hole : goal.bounds-work-hole
bounds-work-hole c = search hole_inside
