-- The graph check, then the stages.
use mathlib.Core.Path.{◌≡◌, refl, sym, ap, subst, ◌∙◌}
use mathlib.Core.Bool.{Bool, true, ◌&&◌}
use mathlib.Core.List.{List}
use Prim.Native.Nat.{ℕ, suc, ◌*◌}
use lib.ListN.{length}
use borrow.Author.Tests.{leb-true, eqb-true}
use Rattle.std.specs.Prelude.{Result, Ok, Err, ◌==◌}
use Rattle.laws.specs.Tests.{◌≤?◌, or_else}
use Rattle.laws.specs.Lists.{every}
use Rattle.laws.specs.Words.{zeros}
use Rattle.laws.proofs.Tests.{and_l, and_r, next-refused}
use Rattle.laws.proofs.Words.{zeros-length}
use Rattle.rules.specs.declared.GraphCounts.{GraphCounts}
use Rattle.rules.specs.declared.Refusal.{Refusal}
use Rattle.rules.specs.declared.StagesSize.{StagesSize}
use Rattle.rules.specs.Bounds.{graph_within, stage_work}
use Rattle.rules.specs.Tables.{held, all_handed, all_taken}
use Rattle.rules.specs.Answers.{endpoints, graph_long, graph_number, stages_number, stage_rows, answer_of, done_of, stages_size}
use Rattle.cuts.proofs.Checked.{number_checked}
use Rattle.graphs.specs.Parts.{lent as words_of}
use Rattle.walk.proofs.Answered.{number_zero, number_more}
use Rattle.asked.specs.Answer.{Sound}
use Rattle.asked.proofs.Graphs.{sound_by}
use Rattle.plans.specs.Answer.{levels_fit, Plans, late_number, Staged1}
use Rattle.staging.specs.Answer.{rows_of, AllStages}

module _ (c : GraphCounts) (ws os ds rs splits : List ℕ) (room : ℕ) (l h t w l₁ h₁ t₁ w₁ : List ℕ)
    (zl : l₁ ≡ zeros (length l)) (zh : h₁ ≡ zeros (length h)) (zt : t₁ ≡ zeros (length t)) (zw : w₁ ≡ zeros (length w)) where
  ll : length l₁ ≡ length l
  ll = ap length zl ∙ zeros-length (length l)

  hl : length h₁ ≡ length h
  hl = ap length zh ∙ zeros-length (length h)

  tl : length t₁ ≡ length t
  tl = ap length zt ∙ zeros-length (length t)

  wl : length w₁ ≡ length w
  wl = ap length zw ∙ zeros-length (length w)

  pub work_zeroed : w₁ ≡ zeros (length w₁)
  work_zeroed = zw ∙ ap zeros (sym wl)

  module _ (levels : Bool) (ev : levels ≡ levels_fit splits room (length h₁) (length t₁))
      (tested : Result (Unit {0}) Refusal) (et₁ : tested ≡ done_of (graph_number c (words_of ws os ds rs) (length w₁) levels (length l₁ == 4 * room))) (n₂ : ℕ) (w₃ : List ℕ) (l₂ : n₂ ≡ length w₁) (e₃ : w₃ ≡ zeros n₂) where
    abbrev k : ℕ
    k = graph_number c (words_of ws os ds rs) (length w₁) levels (length l₁ == 4 * room)

    first_is : graph_number c (words_of ws os ds rs) (length w) (levels_fit splits room (length h) (length t)) (length l == 4 * room) ≡ k
    first_is = (λ i. graph_number c (words_of ws os ds rs) (sym wl i) (levels_fit splits room (sym hl i) (sym tl i)) (sym ll i == 4 * room))
        ∙ ap (λ (b : Bool). graph_number c (words_of ws os ds rs) (length w₁) b (length l₁ == 4 * room)) (sym ev)

    number_is : stages_number c (words_of ws os ds rs) splits room (length l) (length h) (length t) (length w)
        ≡ or_else k (late_number c (words_of ws os ds rs) splits room (length h) (length t))
    unfolding stages_number late_number
    number_is = ap (λ (x : ℕ). or_else x (late_number c (words_of ws os ds rs) splits room (length h) (length t))) first_is

    pub stages_early : (e : Refusal) → tested ≡ Err e → AllStages c (words_of ws os ds rs) splits room l h t w l₁ h₁ t₁ w₃ (Err e)
    stages_early e v = number_more k e (sym v ∙ et₁)
        (λ j kj ej.
        let n : stages_number c (words_of ws os ds rs) splits room (length l) (length h) (length t) (length w) ≡ suc j
        = number_is ∙ ap (λ (x : ℕ). or_else x (late_number c (words_of ws os ds rs) splits room (length h) (length t))) kj in
        record {
          answer = ap Err ej ∙ sym (ap (λ (x : ℕ). answer_of x (stages_size (rows_of c (words_of ws os ds rs) splits))) n);
          rows = zl ∙ sym (ap (λ (x : ℕ). held x (stage_rows (rows_of c (words_of ws os ds rs) splits)) (length l)) n);
          handed = zh ∙ sym (ap (λ (x : ℕ). held x (all_handed (rows_of c (words_of ws os ds rs) splits)) (length h)) n);
          taken = zt ∙ sym (ap (λ (x : ℕ). held x (all_taken (rows_of c (words_of ws os ds rs) splits)) (length t)) n);
          work = e₃ ∙ ap zeros (l₂ ∙ wl);
        })

    module _ (u : Unit {0}) (v : tested ≡ Ok u) where
      z : k ≡ 0
      z = number_zero k u tt (sym v ∙ et₁)

      both : ((graph_within c && levels) ≡ true) × ((graph_long c (words_of ws os ds rs) && (stage_work c.pins (endpoints c) ≤? length w₁) && (length l₁ == 4 * room)) ≡ true)
      both = let n = number_checked c (words_of ws os ds rs) (length w₁) levels (length l₁ == 4 * room) z in (n.1, n.2)

      levels_true : levels_fit splits room (length h₁) (length t₁) ≡ true
      levels_true = sym ev ∙ and_r (graph_within c) levels both.0

      pub stages_plans : Plans c ws os ds rs splits room l₁ h₁ t₁ w₃
      stages_plans =
          let a = length splits ≤? 64 in let b = every (λ x. x ≤? 16777215) splits in let d = room ≤? 65 in let x = length h₁ ≤? 16777215 in let y = length t₁ ≤? 16777215 in
          let q4 = and_l (((a && b) && d) && x) y levels_true in let q3 = and_l ((a && b) && d) x q4 in let q2 = and_l (a && b) d q3 in
          record {
            sound = subst (λ (n : ℕ). Sound c ws os ds rs n) (sym (ap length e₃ ∙ zeros-length n₂ ∙ l₂)) (sound_by c ws os ds rs (length w₁) k levels (length l₁ == 4 * room) refl z);
            few = leb-true (length splits) 64 (and_l a b q2);
            rows_long = eqb-true (length l₁) (4 * room) (and_r (graph_long c (words_of ws os ds rs) && (stage_work c.pins (endpoints c) ≤? length w₁)) (length l₁ == 4 * room) both.1);
            room_few = leb-true room 65 (and_r (a && b) d q3);
            handed_few = leb-true (length h₁) 16777215 (and_r ((a && b) && d) x q4);
            taken_few = leb-true (length t₁) 16777215 (and_r (((a && b) && d) && x) y levels_true);
            rows_zero = zl ∙ ap zeros (sym ll);
            handed_zero = zh ∙ ap zeros (sym hl);
            taken_zero = zt ∙ ap zeros (sym tl);
            work_zero = e₃ ∙ ap zeros (sym (ap length e₃ ∙ zeros-length n₂));
          }

      pub stages_late : (l₃ h₃ t₃ : List ℕ) (n₄ : ℕ) (w₅ : List ℕ) (r : Result StagesSize Refusal) → Staged1 c ws os ds rs splits room l₁ h₁ t₁ l₃ h₃ t₃ r → n₄ ≡ length w₃ → w₅ ≡ zeros n₄
          → AllStages c (words_of ws os ds rs) splits room l h t w l₃ h₃ t₃ w₅ r
      stages_late l₃ h₃ t₃ n₄ w₅ r p l₄ e₅ =
          let e : late_number c (words_of ws os ds rs) splits room (length h₁) (length t₁) ≡ stages_number c (words_of ws os ds rs) splits room (length l) (length h) (length t) (length w)
          = (λ i. late_number c (words_of ws os ds rs) splits room (hl i) (tl i))
          ∙ sym (number_is ∙ next-refused k (late_number c (words_of ws os ds rs) splits room (length h) (length t)) z) in
          record {
            answer = p.answer ∙ ap (λ (x : ℕ). answer_of x (stages_size (rows_of c (words_of ws os ds rs) splits))) e;
            rows = p.rows ∙ (λ i. held (e i) (stage_rows (rows_of c (words_of ws os ds rs) splits)) (ll i));
            handed = p.handed ∙ (λ i. held (e i) (all_handed (rows_of c (words_of ws os ds rs) splits)) (hl i));
            taken = p.taken ∙ (λ i. held (e i) (all_taken (rows_of c (words_of ws os ds rs) splits)) (tl i));
            work = e₅ ∙ ap zeros (l₄ ∙ ap length e₃ ∙ zeros-length n₂ ∙ l₂ ∙ wl);
          }
