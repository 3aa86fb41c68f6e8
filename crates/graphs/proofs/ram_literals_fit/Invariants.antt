use Rattle.graphs.specs.Parts.{ram_row_fits}
use Rattle.laws.proofs.Scans.{Scanned}
use Prim.Native.Nat.{ℕ, ◌*◌}
use Rattle.graphs.proofs.ram_literals_fit.Given as goal

abbrev pub invariant-loop-k : goal.invariant-loop-k
invariant-loop-k l = Scanned (λ (j : ℕ). ram_row_fits l.rams (123 * j) l.pins) l.n l.k
