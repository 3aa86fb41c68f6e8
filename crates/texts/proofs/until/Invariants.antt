use Rattle.texts.proofs.Bytes.{Seeking}
use Rattle.texts.proofs.until.Given as goal

abbrev pub invariant-loop-i : goal.invariant-loop-i
invariant-loop-i l = Seeking l.s l.at l.stop l.i
