-- Demand 3 speaks of something: M9 is cut legally by all rising levels, and it meets the bounds on stages and chains.
use Rattle.std.specs.Prelude.{None, Some}
use mathlib.Core.Path.{◌≡◌, refl}
use mathlib.Core.Bool.{true}
use mathlib.Core.List.{List, [], ◌∷◌}
use Prim.Native.Nat.{ℕ}
use native.Mathlib.Omega.{arith}
use lib.ListN.{length}
use Rattle.rules.specs.Stages.{split, stages_from, stages, row}
use Rattle.rules.specs.Work.{root, GateChain, single, stage_roots}
use Rattle.rules.specs.Refusals.{rising}
use Rattle.rules.specs.Hand.{M9}
use Rattle.cuts.specs.Depths.{depth, first_at_least, row_at}
use Rattle.demands.specs.Demand3.{LegalCut}
use Rattle.demands.proofs.Demand3.{demand3}
use Rattle.demands.proofs.EqualLevels.{m9_checked, m9_reads}

pub m9_legal : (splits : List ℕ) → rising splits ≡ true → LegalCut M9 splits (stages M9 splits)
m9_legal splits rises = demand3 M9 splits m9_checked m9_reads rises

-- pins 1 to 4 are sources, 5 reads 1 and 2, 6 reads 3 and 5, 7 reads 4 and 6, and the endpoint reads 7, three gates deep
pub m9_stages : stages M9 (0 ∷ 1 ∷ 2 ∷ []) ≡
    row 0 (Some 0) (record { handed = 4 ∷ 3 ∷ 1 ∷ 2 ∷ []; taken = [] })
    ∷ row 0 (Some 1) (record { handed = 5 ∷ []; taken = [] })
    ∷ row 1 (Some 2) (record { handed = 6 ∷ []; taken = [] })
    ∷ row 2 None (record { handed = []; taken = 0 ∷ [] })
    ∷ []
unfolding split stages_from
m9_stages = refl

-- one stage more than there are levels
pub rows_met : length (stages M9 (0 ∷ 1 ∷ 2 ∷ [])) ≡ 4
rows_met = rw m9_stages

-- depth 3 is above all levels, so the endpoint is in the last stage, number 3 from 0
pub depth_met : first_at_least (depth M9 0) (0 ∷ 1 ∷ 2 ∷ []) ≡ 3
depth_met = refl

-- a chain of one gate in a stage that is one high
pub chain_met : GateChain M9 [] (stage_roots M9 (row_at (stages M9 (1 ∷ [])) 0).stage) 5 1
unfolding split stages_from
chain_met = single {a = 2} {b = 4} (root {u = 5} (omega arith)) refl refl
