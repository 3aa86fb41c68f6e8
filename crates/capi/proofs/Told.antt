-- An answer that a call gives by its number, as it is told. A number is that of a refusal, so it is at most 15.
use mathlib.Core.Path.{◌≡◌, refl, sym, ap, ◌∙◌}
use mathlib.Core.List.{List}
use Prim.Native.Nat.{ℕ, zero, suc, ◌≤◌}
use native.Mathlib.Omega.{arith}
use lib.ListN.{length}
use Rattle.rules.specs.declared.Endpoint.{Endpoint}
use Rattle.rules.specs.declared.StageSize.{StageSize}
use Rattle.rules.specs.declared.StagesSize.{StagesSize}
use Rattle.rules.specs.Tables.{held}
use Rattle.rules.specs.Answers.{answer_of, done_of}
use Rattle.tells.specs.declared.Told.{Told}
use Rattle.tells.specs.Telling.{done_number, word_told, stage_told, stages_told, endpoint_told, told_number, told_counts, Tells, kept}
use Rattle.tells.proofs.Numbers.{number_of_lem}
use Rattle.tells.proofs.Telling.{told_zero, held_same, kept-held}

pub done_number_lem : (k : ℕ) → k ≤ 15 → done_number (done_of k) ≡ k
done_number_lem zero l = refl
done_number_lem (suc k) l = number_of_lem k (omega arith)

pub word_number : (n k : ℕ) → k ≤ 15 → (word_told (answer_of k n)).number ≡ k
word_number n zero l = refl
word_number n (suc k) l = number_of_lem k (omega arith)

pub stage_number : (s : StageSize) (k : ℕ) → k ≤ 15 → (stage_told (answer_of k s)).number ≡ k
stage_number s zero l = refl
stage_number s (suc k) l = number_of_lem k (omega arith)

pub stages_number_lem : (s : StagesSize) (k : ℕ) → k ≤ 15 → (stages_told (answer_of k s)).number ≡ k
stages_number_lem s zero l = refl
stages_number_lem s (suc k) l = number_of_lem k (omega arith)

pub endpoint_number_lem : (e : Endpoint) (k : ℕ) → k ≤ 15 → (endpoint_told (answer_of k e)).number ≡ k
endpoint_number_lem e zero l = refl
endpoint_number_lem e (suc k) l = number_of_lem k (omega arith)

-- T gives what is told by the number k of the call; r is what a caller in C is answered
module _ (T : ℕ → Told) (t : Told) (k : ℕ) (is : (T k).number ≡ k) (n n' : List ℕ) (r : ℕ) (e : t ≡ T k) (q : Tells t n n' r) where
  pub told_answer : r ≡ told_number (length n) k
  told_answer = q.answer ∙ ap (λ (x : Told). told_number (length n) x.number) e ∙ ap (told_number (length n)) is

  pub told_success : r ≡ 0 → k ≡ 0
  told_success z = told_zero (length n) k (sym told_answer ∙ z)

  pub told_counts_lem : n' ≡ held r (told_counts (T 0)) (length n)
  told_counts_lem = q.counts ∙ held_same r (told_counts t) (told_counts (T 0)) (length n) (λ z. ap told_counts (e ∙ ap T (told_success z)))

  pub told-kept : (ws a a' : List ℕ) (room : ℕ) → a' ≡ kept r a → a ≡ held k ws room → length a ≡ room → a' ≡ held r ws room
  told-kept ws a a' room x y l = x ∙ kept-held r k ws a room told_success y l
