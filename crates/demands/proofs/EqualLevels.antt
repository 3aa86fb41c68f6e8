-- The other side: with equal levels allowed demand 3 is false. On M9 with [1, 1] the second split has a difference of 0; its low pins were
-- all handed on before, so it hands nothing on and counts as the last, and endpoint 0 is in no stage.
use mathlib.Core.Path.{◌≡◌, refl}
use mathlib.Core.Bool.{Bool, true}
use mathlib.Core.List.{[], ◌∷◌}
use Prim.Native.Nat.{ℕ}
use native.Mathlib.Omega.{arith}
use Rattle.laws.specs.Lists.{upto}
use Rattle.rules.specs.Stages.{endpoint_count, split, stages_from, stages}
use Rattle.rules.specs.Work.{source_bits, worked}
use Rattle.rules.specs.Tables.{decode_at, all_taken}
use Rattle.rules.specs.Refusals.{something_read}
use Rattle.rules.specs.Tables.{counts_of, words_of}
use Rattle.rules.specs.Hand.{M9}
use Rattle.cuts.specs.Checked.{Checked}
use Rattle.cuts.proofs.Checked.{graph_checked}
use Rattle.demands.specs.Demand3.{LegalCut, WithEqualLevels}

-- all else is as it should be: the check accepts M9, and its endpoint reads a pin
pub m9_checked : Checked M9
unfolding decode_at
m9_checked = graph_checked (counts_of M9) (words_of M9) refl

pub m9_reads : something_read M9 (upto (endpoint_count M9)) ≡ true
m9_reads = refl

pub equal_lost : all_taken (stages M9 (1 ∷ 1 ∷ [])) ≡ []
unfolding split stages_from
equal_lost = refl

-- no stage answers for it, whatever the sources' bits
pub equal_silent : (src : ℕ → Bool) → worked M9 (source_bits M9 src) [] (stages M9 (1 ∷ 1 ∷ [])) ≡ []
unfolding split stages_from
equal_silent src = refl

pub equal_fails : LegalCut M9 (1 ∷ 1 ∷ []) (stages M9 (1 ∷ 1 ∷ [])) → ⊥
equal_fails s = omega (arith, rw equal_lost at (s.once 0 (omega arith)))

pub equal_levels_refuted : WithEqualLevels → ⊥
equal_levels_refuted claim = equal_fails (claim M9 (1 ∷ 1 ∷ []) m9_checked m9_reads refl)
