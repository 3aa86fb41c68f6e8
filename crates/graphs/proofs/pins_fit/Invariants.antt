use Rattle.laws.specs.Tests.{◌≤?◌}
use Rattle.rules.specs.Graph.{pin_of}
use Rattle.laws.proofs.Scans.{Scanned}
use lib.ListN.{get_or}
use Prim.Native.Nat.{ℕ, ◌+◌}
use Rattle.graphs.proofs.pins_fit.Given as goal

abbrev pub invariant-loop-i : goal.invariant-loop-i
invariant-loop-i l = Scanned (λ (j : ℕ). pin_of (get_or l.table (l.from + j) 0) ≤? l.pins) l.n l.i
