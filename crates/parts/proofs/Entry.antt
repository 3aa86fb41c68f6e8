-- The graph check, then the split.
use mathlib.Core.Path.{◌≡◌, refl, sym, ap, subst, ◌∙◌}
use mathlib.Core.Bool.{Bool, true, ◌&&◌}
use mathlib.Core.List.{List}
use Prim.Native.Nat.{ℕ, suc}
use Rattle.std.specs.Prelude.{Result, Ok, Err}
use lib.ListN.{length}
use borrow.Author.Tests.{leb-true}
use Rattle.laws.specs.Tests.{◌≤?◌, or_else}
use Rattle.laws.specs.Words.{zeros}
use Rattle.laws.proofs.Tests.{and_l, and_r, next-refused}
use Rattle.laws.proofs.Words.{zeros-length}
use Rattle.rules.specs.declared.GraphCounts.{GraphCounts}
use Rattle.rules.specs.declared.Refusal.{Refusal}
use Rattle.rules.specs.declared.StageSize.{StageSize}
use Rattle.rules.specs.Bounds.{graph_within}
use Rattle.rules.specs.Tables.{held}
use Rattle.rules.specs.Answers.{graph_number, split_number, answer_of, done_of, stage_size}
use Rattle.cuts.proofs.Checked.{number_checked}
use Rattle.graphs.specs.Parts.{lent as words_of}
use Rattle.walk.proofs.Answered.{number_zero, number_more}
use Rattle.asked.specs.Answer.{lists_fit, Parts, late_number, Parted1}
use Rattle.asked.proofs.Graphs.{sound_by}
use Rattle.parts.specs.Answer.{stage_of, Split}

module _ (c : GraphCounts) (ws os ds rs chosen before : List ℕ) (level : ℕ) (h t w h₁ t₁ w₁ : List ℕ)
    (eh : h₁ ≡ zeros (length h)) (et : t₁ ≡ zeros (length t)) (ew : w₁ ≡ zeros (length w)) where
  hl : length h₁ ≡ length h
  hl = ap length eh ∙ zeros-length (length h)

  tl : length t₁ ≡ length t
  tl = ap length et ∙ zeros-length (length t)

  wl : length w₁ ≡ length w
  wl = ap length ew ∙ zeros-length (length w)

  pub work_zeroed : w₁ ≡ zeros (length w₁)
  work_zeroed = ew ∙ ap zeros (sym wl)

  module _ (lists : Bool) (el : lists ≡ lists_fit (length chosen) (length before) level (length h₁) (length t₁))
      (tested : Result (Unit {0}) Refusal) (et₁ : tested ≡ done_of (graph_number c (words_of ws os ds rs) (length w₁) lists true)) (n₂ : ℕ) (w₃ : List ℕ) (l₂ : n₂ ≡ length w₁) (e₃ : w₃ ≡ zeros n₂) where
    abbrev k : ℕ
    k = graph_number c (words_of ws os ds rs) (length w₁) lists true

    first_is : graph_number c (words_of ws os ds rs) (length w) (lists_fit (length chosen) (length before) level (length h) (length t)) true ≡ k
    first_is = (λ i. graph_number c (words_of ws os ds rs) (sym wl i) (lists_fit (length chosen) (length before) level (sym hl i) (sym tl i)) true)
        ∙ ap (λ (b : Bool). graph_number c (words_of ws os ds rs) (length w₁) b true) (sym el)

    number_is : split_number c (words_of ws os ds rs) chosen before level (length h) (length t) (length w)
        ≡ or_else k (late_number c (words_of ws os ds rs) chosen before level (length h) (length t))
    unfolding split_number late_number
    number_is = ap (λ (x : ℕ). or_else x (late_number c (words_of ws os ds rs) chosen before level (length h) (length t))) first_is

    work₃ : w₃ ≡ zeros (length w)
    work₃ = e₃ ∙ ap zeros (l₂ ∙ wl)

    pub split_early : (e : Refusal) → tested ≡ Err e → Split c (words_of ws os ds rs) chosen before level h t w h₁ t₁ w₃ (Err e)
    split_early e v = number_more k e (sym v ∙ et₁)
        (λ j kj ej.
        let n : split_number c (words_of ws os ds rs) chosen before level (length h) (length t) (length w) ≡ suc j
        = number_is ∙ ap (λ (x : ℕ). or_else x (late_number c (words_of ws os ds rs) chosen before level (length h) (length t))) kj in
        record {
          answer = ap Err ej ∙ sym (ap (λ (x : ℕ). answer_of x (stage_size (stage_of c (words_of ws os ds rs) chosen before level))) n);
          handed = eh ∙ sym (ap (λ (x : ℕ). held x (stage_of c (words_of ws os ds rs) chosen before level).handed (length h)) n);
          taken = et ∙ sym (ap (λ (x : ℕ). held x (stage_of c (words_of ws os ds rs) chosen before level).taken (length t)) n);
          work = work₃;
        })

    module _ (u : Unit {0}) (v : tested ≡ Ok u) where
      z : k ≡ 0
      z = number_zero k u tt (sym v ∙ et₁)

      lists_true : lists_fit (length chosen) (length before) level (length h₁) (length t₁) ≡ true
      lists_true = sym el ∙ and_r (graph_within c) lists (number_checked c (words_of ws os ds rs) (length w₁) lists true z).1

      pub split_parts : Parts c ws os ds rs h₁ t₁ w₃
      split_parts =
          let a = length chosen ≤? 16777215 in let b = length before ≤? 16777215 in let d = level ≤? 16777215 in let x = length h₁ ≤? 16777215 in let y = length t₁ ≤? 16777215 in
          let q = and_l (((a && b) && d) && x) y lists_true in
          record {
            sound = subst (λ (n : ℕ). Rattle.asked.specs.Answer.Sound c ws os ds rs n) (sym (ap length e₃ ∙ zeros-length n₂ ∙ l₂))
                (sound_by c ws os ds rs (length w₁) k lists true refl z);
            work_zero = e₃ ∙ ap zeros (sym (ap length e₃ ∙ zeros-length n₂));
            handed_zero = eh ∙ ap zeros (sym hl);
            taken_zero = et ∙ ap zeros (sym tl);
            handed_few = leb-true (length h₁) 16777215 (and_r ((a && b) && d) x q);
            taken_few = leb-true (length t₁) 16777215 (and_r (((a && b) && d) && x) y lists_true);
          }

      pub split_late : (h₂ t₂ : List ℕ) (n₄ : ℕ) (w₅ : List ℕ) (r : Result StageSize Refusal) → Parted1 c ws os ds rs chosen before level h₁ t₁ h₂ t₂ r → n₄ ≡ length w₃ → w₅ ≡ zeros n₄
          → Split c (words_of ws os ds rs) chosen before level h t w h₂ t₂ w₅ r
      split_late h₂ t₂ n₄ w₅ r p l₄ e₅ =
          let e : late_number c (words_of ws os ds rs) chosen before level (length h₁) (length t₁) ≡ split_number c (words_of ws os ds rs) chosen before level (length h) (length t) (length w)
          = (λ i. late_number c (words_of ws os ds rs) chosen before level (hl i) (tl i))
          ∙ sym (number_is ∙ next-refused k (late_number c (words_of ws os ds rs) chosen before level (length h) (length t)) z) in
          record {
            answer = p.answer ∙ ap (λ (x : ℕ). answer_of x (stage_size (stage_of c (words_of ws os ds rs) chosen before level))) e;
            handed = p.handed ∙ (λ i. held (e i) (stage_of c (words_of ws os ds rs) chosen before level).handed (hl i));
            taken = p.taken ∙ (λ i. held (e i) (stage_of c (words_of ws os ds rs) chosen before level).taken (tl i));
            work = e₅ ∙ ap zeros (l₄ ∙ ap length e₃ ∙ zeros-length n₂ ∙ l₂ ∙ wl);
          }
