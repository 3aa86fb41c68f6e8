use Rattle.reads.proofs.Numbers.{turn_even, turn_odd}
use Rattle.reads.proofs.turn_word.Goals as goal

pub returns-then-j-eq0 : goal.returns-then-j-eq0
returns-then-j-eq0 c = search turn_even

pub returns : goal.returns
returns c = search turn_odd
