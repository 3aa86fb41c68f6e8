use Rattle.rules.proofs.Literals.{opposite_even, opposite_odd}
use Rattle.rules.proofs.Literal.opposite.Goals as goal

pub returns-then-self-eq0 : goal.returns-then-self-eq0
returns-then-self-eq0 c = search opposite_even

pub returns-else-self-eq0 : goal.returns-else-self-eq0
returns-else-self-eq0 c = search opposite_odd
