use Rattle.sheets.proofs.Filling.{Nets}
use mathlib.Core.Path.{◌≡◌}
use Rattle.sheets.proofs.fill_nets.Given as goal

abbrev pub invariant-loop-i : goal.invariant-loop-i
invariant-loop-i l = Nets l.ns l.ss l.f l.n l.initial.out l.out l.i × (l.f ≡ l.first)
