use Rattle.graphs.specs.Parts.{pins_fit}
use Rattle.laws.proofs.Scans.{Scanned}
use Prim.Native.Nat.{ℕ, ◌*◌}
use Rattle.graphs.proofs.dff_literals_fit.Given as goal

abbrev pub invariant-loop-k : goal.invariant-loop-k
invariant-loop-k l = Scanned (λ (j : ℕ). pins_fit l.dffs (3 * j) 2 l.pins) l.n l.k
