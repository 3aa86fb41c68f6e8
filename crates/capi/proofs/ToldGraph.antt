-- The calls on a driver table and the graph check, as they are told.
use mathlib.Core.Path.{◌≡◌, sym, ap, ◌∙◌}
use mathlib.Core.Bool.{Bool}
use mathlib.Core.List.{List}
use Prim.Native.Nat.{ℕ}
use lib.ListN.{length}
use Rattle.std.specs.Prelude.{Result}
use Rattle.laws.specs.Words.{zeros}
use Rattle.rules.specs.declared.GraphCounts.{GraphCounts}
use Rattle.rules.specs.declared.Refusal.{Refusal}
use Rattle.rules.specs.Build.{fanouts, fanout_starts}
use Rattle.rules.specs.Tables.{drivers_in, held}
use Rattle.rules.specs.Answers.{done_of, answer_of, pin_bits, traverse_number, check_graph_number}
use Rattle.graphs.specs.Parts.{lent}
use Rattle.evaluate.specs.Bits.{Evaluated as Evaluated₁}
use Rattle.fanouts.specs.Fans.{FannedOut as FannedOut₁}
use Rattle.traverse.specs.Answer.{visit_order, Traversed as Traversed₁}
use Rattle.tells.specs.declared.Told.{Told}
use Rattle.tells.specs.Telling.{done_number, word_told, TellsOne}
use Rattle.capi.specs.Answer.{Checked, Evaluated, FannedOut, Traversed}
use Rattle.capi.proofs.Few.{check_few, evaluate_few, fanouts_few, traverse_few}
use Rattle.capi.proofs.Told.{done_number_lem, word_number, told_answer, told_counts_lem, told-kept}

pub check-told : (c : GraphCounts) (ws os ds rs w w' : List ℕ) (d : Result (Unit {0}) Refusal) (r : ℕ) → d ≡ done_of (check_graph_number c (lent ws os ds rs) (length w)) → w' ≡ zeros (length w)
    → r ≡ done_number d → Checked c ws os ds rs w w' r
check-told c ws os ds rs w w' d r p z e = record { answer = e ∙ ap done_number p ∙ done_number_lem _ (check_few c (lent ws os ds rs) (length w)); work = z }

pub evaluate_told : (ws : List ℕ) (pins : ℕ) (sources bits bits' : List ℕ) (d : Result (Unit {0}) Refusal) (r : ℕ) → Evaluated₁ ws pins sources bits bits' d → r ≡ done_number d
    → Evaluated ws pins sources bits bits' r
evaluate_told ws pins sources bits bits' d r p e =
    let q = e ∙ ap done_number p.answer ∙ done_number_lem _ (evaluate_few pins ws sources (length bits)) in
    record { answer = q; held_bits = p.held_bits ∙ sym (ap (λ (k : ℕ). held k (pin_bits pins ws sources) (length bits)) q) }

pub fanouts-told : (ws : List ℕ) (pins : ℕ) (s l s' l' : List ℕ) (d : Result (Unit {0}) Refusal) (r : ℕ) → FannedOut₁ ws pins s l s' l' d → r ≡ done_number d → FannedOut ws pins s l s' l' r
fanouts-told ws pins s l s' l' d r p e =
    let q = e ∙ ap done_number p.answer ∙ done_number_lem _ (fanouts_few pins ws (length s) (length l)) in
    record {
      answer = q;
      held_starts = p.held_starts ∙ sym (ap (λ (k : ℕ). held k (fanout_starts (drivers_in ws pins)) (length s)) q);
      held_lists = p.held_lists ∙ sym (ap (λ (k : ℕ). held k (fanouts (drivers_in ws pins)) (length l)) q);
    }

pub traverse_told : (ws : List ℕ) (pins : ℕ) (given : Bool) (roots handed o n w o₁ w₁ o' n' : List ℕ) (d : Result ℕ Refusal) (t : Told) (r : ℕ)
    → Traversed₁ ws pins given roots handed o w o₁ w₁ d → t ≡ word_told d → TellsOne t o₁ n o' n' r → length o₁ ≡ length o
    → Traversed ws pins given roots handed o n w o' n' w₁ r
traverse_told ws pins given roots handed o n w o₁ w₁ o' n' d t r p e q l =
    let v = visit_order ws pins given roots handed in
    let k = traverse_number pins ws given roots handed (length o) (length w) in
    let T : ℕ → Told = λ x. word_told (answer_of x (length v)) in
    let is = word_number (length v) k (traverse_few pins ws given roots handed (length o) (length w)) in
    let m = e ∙ ap word_told p.answer in
    record {
      answer = told_answer T t k is n n' r m q.tells;
      order = told-kept T t k is n n' r m q.tells v o₁ o' (length o) q.first p.order l;
      counts = told_counts_lem T t k is n n' r m q.tells;
      work = p.work;
    }
