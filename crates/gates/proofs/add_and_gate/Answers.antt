use Rattle.gates.proofs.Steps.{first_zero, second_zero, first_one, second_one, second_first, first_first}
use Rattle.gates.proofs.add_and_gate.Goals as goal

pub returns-then-x-eq0 : goal.returns-then-x-eq0
returns-then-x-eq0 c = search first_zero

pub returns-then-y-eq0 : goal.returns-then-y-eq0
returns-then-y-eq0 c = search second_zero

pub returns-then-x-eq1 : goal.returns-then-x-eq1
returns-then-x-eq1 c = search first_one

pub returns-then-y-eq1 : goal.returns-then-y-eq1
returns-then-y-eq1 c = search second_one

pub returns-then-y-x : goal.returns-then-y-x
returns-then-y-x c = search second_first

pub returns-else-y-x : goal.returns-else-y-x
returns-else-y-x c = search first_first
