use Rattle.reads.proofs.Numbers.{dff_first, dff_second}
use Rattle.reads.proofs.dff_word.Goals as goal

pub returns-then-i-eq0 : goal.returns-then-i-eq0
returns-then-i-eq0 c = search dff_first

pub returns : goal.returns
returns c = search dff_second
