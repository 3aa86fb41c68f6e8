use borrow.Author.Rules.{rules}
use Rattle.activity.proofs.Tracing.{passing_next, walk_begins, walk_going, walk_ends, walk_goes_on, walk_fails}
use Rattle.activity.proofs.through_all.Goals as goal

pub loop-i-init : goal.loop-i-init
loop-i-init c = search walk_begins

pub through-requires : goal.through-requires
through-requires c = let i = c.loop-i.invariant in record { going = search walk_going; clocked = search rules; i_in_bounds = search (passing_next, i.passing, c.requires.gates_value.is) }

pub returns-in_err-lit : goal.returns-in_err-lit
returns-in_err-lit c = rw c.from_residual.ensures (search (walk_fails, c.in_err-lit.ensures, c.requires.gates_value.is))

pub loop-i-preserved : goal.loop-i-preserved
loop-i-preserved c = search (walk_goes_on, c.in_ok-lit.ensures, c.requires.gates_value.is)

pub returns : goal.returns
returns c = search (walk_ends, c.requires.gates_value.is)
