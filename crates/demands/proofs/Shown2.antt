-- Demand 2 used: what M1's output must be in every assignment that obeys, whatever comes in; computed from its graph.
use mathlib.Core.Path.{◌≡◌, refl, ◌∙◌}
use mathlib.Core.Bool.{Bool, true, false, not, ◌&&◌, ◌||◌}
use Prim.Native.Nat.{ℕ}
use native.Mathlib.Omega.{arith}
use Rattle.rules.specs.Cells.{Env, Logic, CellRules}
use Rattle.rules.specs.Graph.{and_of}
use Rattle.rules.specs.Build.{step2, step3, graph_of}
use Rattle.rules.specs.Refusals.{Accepted}
use Rattle.rules.specs.Hand.{M1}
use Rattle.rules.proofs.Accepts.{accepted_iff, no_mark_iff}
use Rattle.demands.proofs.Sources2.{source, given}
use Rattle.demands.proofs.Demand2.{demand2}

m1_accepted : Accepted M1
m1_accepted = (accepted_iff M1).0 refl

-- no marker reaches the output port
m1_logic : Logic M1 2
m1_logic = (no_mark_iff M1 m1_accepted.tables m1_accepted.no_loop 2 (omega arith)).0 refl

or_is : (a b : Bool) → not (not a && not b) ≡ (a || b)
or_is true b = refl
or_is false true = refl
or_is false false = refl

-- AND2_11_1 is an OR
pub m1_is_or : (env : Env) (v : ℕ → Bool) → CellRules M1 env v → v 2 ≡ (env.port_bit 0 || env.port_bit 1)
unfolding and_of step2 step3
m1_is_or env v cr = ((demand2 M1 m1_accepted env).bits (source env (graph_of M1)) (given M1 m1_accepted env)).same v cr 2 (omega arith) m1_logic
    ∙ or_is (env.port_bit 0) (env.port_bit 1)
