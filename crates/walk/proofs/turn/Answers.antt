use Rattle.walk.proofs.Turns.{operands_in, top_in, mark_at, list_at, turn_lists, turn_pushes}
use lib.ListN.{length-set}
use native.Mathlib.Omega.{arith}
use Rattle.walk.proofs.turn.Goals as goal

pub next-x-requires : goal.next-x-requires
next-x-requires c = record { operands = search operands_in; p_lt_m = search top_in; m_in_bounds = search; m_in_bounds_2 = omega arith }

pub returns-then-x-eq0 : goal.returns-then-x-eq0
returns-then-x-eq0 c = search turn_lists

pub returns-else-x-eq0 : goal.returns-else-x-eq0
returns-else-x-eq0 c = search turn_pushes

pub bounds-work-p : goal.bounds-work-p
bounds-work-p c = search mark_at

pub bounds-work-last : goal.bounds-work-last
bounds-work-last c = simp length-set (search list_at)
