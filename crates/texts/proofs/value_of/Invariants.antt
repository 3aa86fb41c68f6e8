use Rattle.texts.proofs.Bytes.{Reckoned}
use Rattle.texts.proofs.value_of.Given as goal

abbrev pub invariant-loop-b : goal.invariant-loop-b
invariant-loop-b l = Reckoned l.s l.b-index l.v
