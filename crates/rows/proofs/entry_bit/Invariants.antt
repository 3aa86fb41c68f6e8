use Rattle.rows.specs.Words.{has_bit}
use Rattle.rows.proofs.Filling.{Scanning}
use Rattle.rows.proofs.entry_bit.Given as goal

abbrev pub invariant-loop-i : goal.invariant-loop-i
invariant-loop-i l = Scanning (has_bit l.pins l.name l.bit) l.list l.from l.n l.i
