-- Joining and reading, one after the other.
use mathlib.Core.Path.{subst}
use mathlib.Core.List.{List}
use Prim.Native.Nat.{ℕ, ◌*◌}
use Rattle.laws.specs.Lists.{flat, over}
use Rattle.laws.proofs.Folds.{over-flat}
use Rattle.rules.specs.declared.GraphCounts.{GraphCounts}
use Rattle.rules.specs.Stages.{read}
use Rattle.cuts.proofs.Joining.{join_by}
use Rattle.walk.specs.State.{goes, list_of}
use Rattle.members.specs.Set.{SetIn}
use Rattle.members.proofs.Frames.{within_on}
use Rattle.reads.specs.Reads.{ins_of}
use Rattle.levels.specs.State.{stops_of}
use Rattle.joins.specs.State.{Holds, ReadAll, low_in, JoinedAll}
use Rattle.splits.specs.State.{WorkedOut}

module _ (c : GraphCounts) (ws os ds rs es : List ℕ) (m d k : ℕ) (w w₁ : List ℕ) (n₁ : ℕ) (a : JoinedAll ws m (stops_of w m) d w 0 (list_of w m k) w₁ n₁) where
  pub work-set : SetIn w₁ (6 * m) m n₁
  work-set = a.holds

  pub work_done : (w₂ : List ℕ) (n₂ : ℕ) → ReadAll m w₁ n₁ (flat (ins_of c os ds rs) es) w₂ n₂ → WorkedOut c ws os ds rs es m d k w w₂ n₂
  work_done w₂ n₂ b = record {
    holds = b.holds;
    joins = λ s h. subst (Holds m w₂ n₂) (over-flat read (ins_of c os ds rs) (over (join_by (goes ws m (stops_of w m)) (low_in m w d)) s (list_of w m k)) es)
        (b.joins (over (join_by (goes ws m (stops_of w m)) (low_in m w d)) s (list_of w m k)) (a.joins s h));
    kept = within_on (5 * m) (8 * m) w w₁ w₂ a.kept b.kept;
  }
