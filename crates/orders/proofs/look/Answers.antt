use Rattle.orders.proofs.Looking.{looking_begins, look_past, look_inside, look_enters, look_loops, look_falls, look_goes_on}
use Rattle.orders.proofs.look.Goals as goal

pub loop-q-init : goal.loop-q-init
loop-q-init c = search looking_begins

pub bounds-work-q : goal.bounds-work-q
bounds-work-q c = search (look_inside, c.in-Some.ensures)

pub returns-in-0 : goal.returns-in-0
returns-in-0 c = search (look_enters, c.in-Some.ensures)

pub returns-in-1 : goal.returns-in-1
returns-in-1 c = search (look_loops, c.in-Some.ensures)

pub loop-q-smaller : goal.loop-q-smaller
loop-q-smaller c = search (look_falls, c.in-Some.ensures)

pub loop-q-preserved : goal.loop-q-preserved
loop-q-preserved c = search (look_goes_on, c.in-Some.ensures)

pub returns : goal.returns
returns c = search (look_past, c.in_default.ensures)
