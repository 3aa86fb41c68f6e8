-- The inputs at a place of a stage, in the code's shape.
use mathlib.Core.Path.{◌≡◌, sym, ap, ◌∙◌}
use mathlib.Core.Bool.{Bool, true, false, ◌&&◌}
use mathlib.Core.List.{List, [], ◌∷◌, map}
use Prim.Native.Nat.{ℕ, ◌-◌, ◌*◌, ◌≤◌, ◌<◌}
use native.Mathlib.Omega.{arith}
use lib.ListN.{length, get_or, get_or-eq_default}
use borrow.Author.Tests.{lt-ltb, le-ltb, ltb-true, ltb-false}
use Rattle.std.specs.Prelude.{Result, Ok, Err, if◌then◌else◌}
use Rattle.laws.specs.Tests.{◌<?◌, ◌≤?◌}
use Rattle.laws.proofs.Tests.{by_test, if_elim}
use Rattle.rules.specs.declared.GraphCounts.{GraphCounts}
use Rattle.rules.specs.declared.Refusal.{Refusal}
use Rattle.rules.specs.declared.Refusal.TheVariants.{Bounds, Lengths, Index}
use Rattle.rules.specs.Graph.{pin_of}
use Rattle.rules.specs.Bounds.{graph_within}
use Rattle.rules.specs.Stages.{reads, inputs_of, inputs}
use Rattle.rules.specs.Tables.{graph_in}
use Rattle.rules.specs.Answers.{ends_long, endpoints, answer_of, end_inputs, place_inputs, stage_input_number}
use Rattle.reads.specs.Reads.{Lent, records_of, ins_of, reads_in}
use Rattle.inputs.specs.Counting.{stage_of}
use Rattle.inputs.proofs.Answers.{kept_positive, lent_by}

-- ---- an endpoint that may not be there
module _ (c : GraphCounts) (os ds rs : List ℕ) (e i n : ℕ) (en : n ≡ endpoints c) where
  pub not_there : n ≤ e → 0 ≡ get_or (end_inputs c (records_of os ds rs) e) i 0
  not_there l = rw (le-ltb e (endpoints c) (omega (arith, l, en)))

  pub is_there : (p : ℕ) → e < n → p ≡ get_or (ins_of c os ds rs e) i 0 → p ≡ get_or (end_inputs c (records_of os ds rs) e) i 0
  unfolding ins_of reads_in
  is_there p l q = rw (lt-ltb e (endpoints c) (omega (arith, l, en))) q

-- ---- an input at a place is a pin other than 0
place_positive : (c : GraphCounts) (os ds rs hs ts : List ℕ) (k i : ℕ) → i < length (place_inputs c (records_of os ds rs) (stage_of hs ts) k)
    → 0 < get_or (place_inputs c (records_of os ds rs) (stage_of hs ts) k) i 0
place_positive c os ds rs hs ts k i = if_elim (k <? length hs) (inputs_of (2 * get_or hs k 0 ∷ [])) rest (λ (l : List ℕ). i < length l → 0 < get_or l i 0)
    (λ t. kept_positive (map pin_of (2 * get_or hs k 0 ∷ [])) i)
    (λ f. if_elim (k - length hs <? length ts) (end_inputs c (records_of os ds rs) e) [] (λ (l : List ℕ). i < length l → 0 < get_or l i 0)
    (λ t. if_elim (e <? endpoints c) (inputs (graph_in c (records_of os ds rs)) e) [] (λ (l : List ℕ). i < length l → 0 < get_or l i 0)
    (λ u. kept_positive (map pin_of (reads (graph_in c (records_of os ds rs)) e)) i)
    (λ u h. absurd (omega (arith, h))))
    (λ t h. absurd (omega (arith, h))))
  where
    e : ℕ
    e = get_or ts (k - length hs) 0

    rest : List ℕ
    rest = if k - length hs <? length ts then end_inputs c (records_of os ds rs) e else []

-- ---- the answer
module _ (c : GraphCounts) (os ds rs hs ts : List ℕ) (k i : ℕ) (a : Bool) (ea : a ≡ (graph_within c && (length hs ≤? 16777215) && (length ts ≤? 16777215))) where
  abbrev Answer : Result ℕ Refusal → Type 0
  Answer r = r ≡ answer_of (stage_input_number c (records_of os ds rs) (stage_of hs ts) k i) (get_or (place_inputs c (records_of os ds rs) (stage_of hs ts) k) i 0)

  pub stage_many : a ≡ false → Answer (Err Bounds)
  unfolding stage_input_number
  stage_many f = rw (sym ea ∙ f)

  module _ (ta : a ≡ true) (b : Bool) (eb : b ≡ ends_long c (records_of os ds rs)) where
    pub stage_short : b ≡ false → Answer (Err Lengths)
    unfolding stage_input_number
    stage_short f = rw (sym ea ∙ ta, sym eb ∙ f)

    module _ (tb : b ≡ true) where
      pub stage-lent : Lent c os ds rs
      stage-lent = lent_by c os ds rs (Rattle.laws.proofs.Tests.and_l (graph_within c) (length hs ≤? 16777215)
          (Rattle.laws.proofs.Tests.and_l (graph_within c && (length hs ≤? 16777215)) (length ts ≤? 16777215) (sym ea ∙ ta))) (sym eb ∙ tb)

      module _ (p : ℕ) (ep : p ≡ get_or (place_inputs c (records_of os ds rs) (stage_of hs ts) k) i 0) where
        pub stage-none : p ≡ 0 → Answer (Err Index)
        unfolding stage_input_number
        stage-none z = rw (sym ea ∙ ta, sym eb ∙ tb, le-ltb i (length (place_inputs c (records_of os ds rs) (stage_of hs ts) k)) past)
          where
            past : length (place_inputs c (records_of os ds rs) (stage_of hs ts) k) ≤ i
            past = by_test (i <? length (place_inputs c (records_of os ds rs) (stage_of hs ts) k))
                (λ t. absurd (omega (arith, z, ep, place_positive c os ds rs hs ts k i (ltb-true i (length (place_inputs c (records_of os ds rs) (stage_of hs ts) k)) t))))
                (ltb-false i (length (place_inputs c (records_of os ds rs) (stage_of hs ts) k)))

        pub stage_input : (p ≡ 0 → ⊥) → Answer (Ok p)
        unfolding stage_input_number
        stage_input n = rw (sym ea ∙ ta, sym eb ∙ tb, lt-ltb i (length (place_inputs c (records_of os ds rs) (stage_of hs ts) k)) there) (ap Ok ep)
          where
            there : i < length (place_inputs c (records_of os ds rs) (stage_of hs ts) k)
            there = by_test (i <? length (place_inputs c (records_of os ds rs) (stage_of hs ts) k))
                (ltb-true i (length (place_inputs c (records_of os ds rs) (stage_of hs ts) k)))
                (λ f. absurd (n (ep ∙ get_or-eq_default (place_inputs c (records_of os ds rs) (stage_of hs ts) k) 0 (ltb-false i (length (place_inputs c (records_of os ds rs) (stage_of hs ts) k)) f))))
