-- Endpoints and what they read, as they are told.
use mathlib.Core.Path.{◌≡◌, ap, ◌∙◌}
use mathlib.Core.List.{List}
use Prim.Native.Nat.{ℕ}
use lib.ListN.{get_or}
use Rattle.std.specs.Prelude.{Result}
use Rattle.rules.specs.declared.Endpoint.{Endpoint}
use Rattle.rules.specs.declared.GraphCounts.{GraphCounts}
use Rattle.rules.specs.declared.Refusal.{Refusal}
use Rattle.rules.specs.Stages.{endpoint_by, inputs}
use Rattle.rules.specs.Tables.{graph_in}
use Rattle.rules.specs.Answers.{answer_of, endpoint_number, input_number, place_inputs, stage_input_number}
use Rattle.reads.specs.Reads.{records_of}
use Rattle.subsets.specs.Answer.{stage_of, staged_number, staged_by}
use Rattle.tells.specs.declared.Told.{Told}
use Rattle.tells.specs.Telling.{endpoint_told, word_told, Tells}
use Rattle.capi.specs.Answer.{EndFound, StagedFound, InputRead, StagedRead}
use Rattle.capi.proofs.Few.{endpoint_few, staged_few, input_few, stage_input_few}
use Rattle.capi.proofs.Told.{endpoint_number_lem, word_number, told_answer, told_counts_lem}

module _ (n n' : List ℕ) (d : Result Endpoint Refusal) (t : Told) (r : ℕ) (e : t ≡ endpoint_told d) (q : Tells t n n' r) where
  pub endpoint_told_lem : (c : GraphCounts) (i : ℕ) → d ≡ answer_of (endpoint_number c i) (endpoint_by c.outputs c.dffs i) → EndFound c i n n' r
  endpoint_told_lem c i p =
      let x = endpoint_by c.outputs c.dffs i in
      let k = endpoint_number c i in
      let T : ℕ → Told = λ j. endpoint_told (answer_of j x) in
      let is = endpoint_number_lem x k (endpoint_few c i) in
      record {
        answer = told_answer T t k is n n' r (e ∙ ap endpoint_told p) q;
        counts = told_counts_lem T t k is n n' r (e ∙ ap endpoint_told p) q;
      }

  pub staged_told_lem : (c : GraphCounts) (handed taken : List ℕ) (i : ℕ) → d ≡ answer_of (staged_number c (stage_of handed taken) i) (staged_by c (stage_of handed taken) i)
      → StagedFound c handed taken i n n' r
  staged_told_lem c handed taken i p =
      let x = staged_by c (stage_of handed taken) i in
      let k = staged_number c (stage_of handed taken) i in
      let T : ℕ → Told = λ j. endpoint_told (answer_of j x) in
      let is = endpoint_number_lem x k (staged_few c (stage_of handed taken) i) in
      record {
        answer = told_answer T t k is n n' r (e ∙ ap endpoint_told p) q;
        counts = told_counts_lem T t k is n n' r (e ∙ ap endpoint_told p) q;
      }

module _ (n n' : List ℕ) (d : Result ℕ Refusal) (t : Told) (r : ℕ) (e : t ≡ word_told d) (q : Tells t n n' r) (c : GraphCounts) (os ds rs : List ℕ) where
  pub input_told : (x i : ℕ) → d ≡ answer_of (input_number c (records_of os ds rs) x i) (get_or (inputs (graph_in c (records_of os ds rs)) x) i 0) → InputRead c os ds rs x i n n' r
  input_told x i p =
      let v = get_or (inputs (graph_in c (records_of os ds rs)) x) i 0 in
      let k = input_number c (records_of os ds rs) x i in
      let T : ℕ → Told = λ j. word_told (answer_of j v) in
      let is = word_number v k (input_few c (records_of os ds rs) x i) in
      record {
        answer = told_answer T t k is n n' r (e ∙ ap word_told p) q;
        counts = told_counts_lem T t k is n n' r (e ∙ ap word_told p) q;
      }

  pub staged_input_told : (handed taken : List ℕ) (x i : ℕ)
      → d ≡ answer_of (stage_input_number c (records_of os ds rs) (stage_of handed taken) x i) (get_or (place_inputs c (records_of os ds rs) (stage_of handed taken) x) i 0)
      → StagedRead c os ds rs handed taken x i n n' r
  staged_input_told handed taken x i p =
      let v = get_or (place_inputs c (records_of os ds rs) (stage_of handed taken) x) i 0 in
      let k = stage_input_number c (records_of os ds rs) (stage_of handed taken) x i in
      let T : ℕ → Told = λ j. word_told (answer_of j v) in
      let is = word_number v k (stage_input_few c (records_of os ds rs) (stage_of handed taken) x i) in
      record {
        answer = told_answer T t k is n n' r (e ∙ ap word_told p) q;
        counts = told_counts_lem T t k is n n' r (e ∙ ap word_told p) q;
      }
