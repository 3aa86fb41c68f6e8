use Rattle.answers.proofs.Lines.{Rows}
use mathlib.Core.Path.{◌≡◌}
use Rattle.answers.proofs.put_rows.Given as goal

abbrev pub invariant-loop : goal.invariant-loop
invariant-loop l = Rows l.initial.out l.at l.label l.ns l.w l.n l.out l.a l.from l.counter × (l.w ≡ l.width)
