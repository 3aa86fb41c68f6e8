-- The stages, as they are told.
use mathlib.Core.Path.{◌≡◌, ap, ◌∙◌}
use mathlib.Core.List.{List, [], ◌∷◌}
use Prim.Native.Nat.{ℕ}
use lib.ListN.{length}
use Rattle.std.specs.Prelude.{Result}
use Rattle.laws.specs.Lists.{upto}
use Rattle.laws.proofs.Ranges.{length-upto}
use Rattle.rules.specs.declared.GraphCounts.{GraphCounts}
use Rattle.rules.specs.declared.Refusal.{Refusal}
use Rattle.rules.specs.declared.StageSize.{StageSize}
use Rattle.rules.specs.declared.StagesSize.{StagesSize}
use Rattle.rules.specs.Stages.{Stage, full_stage, subset}
use Rattle.rules.specs.Tables.{held, all_handed, all_taken}
use Rattle.rules.specs.Answers.{endpoints, answer_of, stage_size, stages_size, full_number, subset_number, split_number, stages_number, stage_rows}
use Rattle.graphs.specs.Parts.{lent}
use Rattle.subsets.specs.Answer.{FullStaged as FullStaged₁, Subsetted as Subsetted₁}
use Rattle.parts.specs.Answer.{stage_of as split_of, Split as Split₁}
use Rattle.staging.specs.Answer.{rows_of, AllStages as AllStages₁}
use Rattle.tells.specs.declared.Told.{Told}
use Rattle.tells.specs.Telling.{stage_told, stages_told, TellsOne, TellsTwo, TellsThree}
use Rattle.capi.specs.Answer.{FullStaged, Subsetted, Split, AllStages}
use Rattle.capi.proofs.Few.{full_few, subset_few, split_few, stages_few}
use Rattle.capi.proofs.Told.{stage_number, stages_number_lem, told_answer, told_counts_lem, told-kept}

module _ (d : Result StageSize Refusal) (t : Told) (r : ℕ) (e : t ≡ stage_told d) where
  pub full_told : (c : GraphCounts) (a n a₁ a' n' : List ℕ) → FullStaged₁ c a a₁ d → TellsOne t a₁ n a' n' r → length a₁ ≡ length a → FullStaged c a n a' n' r
  full_told c a n a₁ a' n' p q l =
      let s = full_stage (endpoints c) in
      let k = full_number c (length a) in
      let T : ℕ → Told = λ x. stage_told (answer_of x (stage_size s)) in
      let is = stage_number (stage_size s) k (full_few c (length a)) in
      let m = e ∙ ap stage_told p.answer in
      record {
        answer = told_answer T t k is n n' r m q.tells;
        taken = told-kept T t k is n n' r m q.tells (upto (endpoints c)) a₁ a' (length a) q.first p.taken l;
        counts = told_counts_lem T t k is n n' r m q.tells ∙ ap (λ (x : ℕ). held r (0 ∷ x ∷ 0 ∷ []) (length n)) (length-upto (endpoints c));
      }

  pub subset-told : (s : Stage) (places a b n a₁ b₁ a' b' n' : List ℕ) → Subsetted₁ s places a b a₁ b₁ d → TellsTwo t a₁ b₁ n a' b' n' r
      → length a₁ ≡ length a → length b₁ ≡ length b → Subsetted s places a b n a' b' n' r
  subset-told s places a b n a₁ b₁ a' b' n' p q la lb =
      let s₁ = subset s places in
      let k = subset_number s places (length a) (length b) in
      let T : ℕ → Told = λ x. stage_told (answer_of x (stage_size s₁)) in
      let is = stage_number (stage_size s₁) k (subset_few s places (length a) (length b)) in
      let m = e ∙ ap stage_told p.answer in
      let u = q.tells.tells in
      record {
        answer = told_answer T t k is n n' r m u;
        handed = told-kept T t k is n n' r m u s₁.handed a₁ a' (length a) q.tells.first p.handed la;
        taken = told-kept T t k is n n' r m u s₁.taken b₁ b' (length b) q.second p.taken lb;
        counts = told_counts_lem T t k is n n' r m u;
      }

  pub split-told : (c : GraphCounts) (ws os ds rs chosen before : List ℕ) (level : ℕ) (a b n w a₁ b₁ w₁ a' b' n' : List ℕ)
      → Split₁ c (lent ws os ds rs) chosen before level a b w a₁ b₁ w₁ d → TellsTwo t a₁ b₁ n a' b' n' r
      → length a₁ ≡ length a → length b₁ ≡ length b → Split c ws os ds rs chosen before level a b n w a' b' n' w₁ r
  split-told c ws os ds rs chosen before level a b n w a₁ b₁ w₁ a' b' n' p q la lb =
      let s₁ = split_of c (lent ws os ds rs) chosen before level in
      let k = split_number c (lent ws os ds rs) chosen before level (length a) (length b) (length w) in
      let T : ℕ → Told = λ x. stage_told (answer_of x (stage_size s₁)) in
      let is = stage_number (stage_size s₁) k (split_few c (lent ws os ds rs) chosen before level (length a) (length b) (length w)) in
      let m = e ∙ ap stage_told p.answer in
      let u = q.tells.tells in
      record {
        answer = told_answer T t k is n n' r m u;
        handed = told-kept T t k is n n' r m u s₁.handed a₁ a' (length a) q.tells.first p.handed la;
        taken = told-kept T t k is n n' r m u s₁.taken b₁ b' (length b) q.second p.taken lb;
        counts = told_counts_lem T t k is n n' r m u;
        work = p.work;
      }

pub stages-told : (d : Result StagesSize Refusal) (t : Told) (r : ℕ) → t ≡ stages_told d
    → (c : GraphCounts) (ws os ds rs splits : List ℕ) (room : ℕ) (l a b n w l₁ a₁ b₁ w₁ l' a' b' n' : List ℕ)
    → AllStages₁ c (lent ws os ds rs) splits room l a b w l₁ a₁ b₁ w₁ d → TellsThree t l₁ a₁ b₁ n l' a' b' n' r
    → length l₁ ≡ length l → length a₁ ≡ length a → length b₁ ≡ length b → AllStages c ws os ds rs splits room l a b n w l' a' b' n' w₁ r
stages-told d t r e c ws os ds rs splits room l a b n w l₁ a₁ b₁ w₁ l' a' b' n' p q ll la lb =
    let v = rows_of c (lent ws os ds rs) splits in
    let k = stages_number c (lent ws os ds rs) splits room (length l) (length a) (length b) (length w) in
    let T : ℕ → Told = λ x. stages_told (answer_of x (stages_size v)) in
    let is = stages_number_lem (stages_size v) k (stages_few c (lent ws os ds rs) splits room (length l) (length a) (length b) (length w)) in
    let m = e ∙ ap stages_told p.answer in
    let u = q.tells.tells.tells in
    record {
      answer = told_answer T t k is n n' r m u;
      rows = told-kept T t k is n n' r m u (stage_rows v) l₁ l' (length l) q.tells.tells.first p.rows ll;
      handed = told-kept T t k is n n' r m u (all_handed v) a₁ a' (length a) q.tells.second p.handed la;
      taken = told-kept T t k is n n' r m u (all_taken v) b₁ b' (length b) q.third p.taken lb;
      counts = told_counts_lem T t k is n n' r m u;
      work = p.work;
    }
