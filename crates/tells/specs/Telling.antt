-- What a caller in C is told of an answer: its number, and three counts.
use Rattle.std.specs.Prelude.{◌≡◌, Result, Ok, Err, List, [], ◌∷◌, ℕ, zero, suc, length, if◌then◌else◌, ◌==◌}
use Rattle.laws.specs.Tests.{◌≤?◌, or_else, refuse}
use Rattle.laws.specs.Words.{zeros}
use Rattle.rules.specs.declared.Endpoint.{Endpoint}
use Rattle.rules.specs.declared.Endpoint.TheVariants.{Output, Flop, Memory, Handed}
use Rattle.rules.specs.declared.Refusal.{Refusal}
use Rattle.rules.specs.declared.StageSize.{StageSize}
use Rattle.rules.specs.declared.StagesSize.{StagesSize}
use Rattle.rules.specs.Tables.{held}
use Rattle.rules.specs.Answers.{number_of}
use Rattle.tells.specs.declared.Told.{Told}

-- ---- the number and the counts of each case
abbrev pub done_number : Result (Unit {0}) Refusal → ℕ
done_number (Ok u) = 0
done_number (Err e) = number_of e

abbrev pub refused : Refusal → Told
refused e = record { number = number_of e; first = 0; second = 0; third = 0 }

-- a pin, or how many pins
abbrev pub word_told : Result ℕ Refusal → Told
word_told (Ok n) = record { number = 0; first = n; second = 0; third = 0 }
word_told (Err e) = refused e

abbrev pub stage_told : Result StageSize Refusal → Told
stage_told (Ok s) = record { number = 0; first = s.handed; second = s.taken; third = 0 }
stage_told (Err e) = refused e

abbrev pub stages_told : Result StagesSize Refusal → Told
stages_told (Ok s) = record { number = 0; first = s.stages; second = s.handed; third = s.taken }
stages_told (Err e) = refused e

-- an endpoint: 0 output, 1 flip-flop, 2 RAM, 3 handed-on pin; then its place, or the pin
abbrev pub end_case : Endpoint → ℕ
end_case (Output k) = 0
end_case (Flop k) = 1
end_case (Memory k) = 2
end_case (Handed p) = 3

abbrev pub end_index : Endpoint → ℕ
end_index (Output k) = k
end_index (Flop k) = k
end_index (Memory k) = k
end_index (Handed p) = p

abbrev pub endpoint_told : Result Endpoint Refusal → Told
endpoint_told (Ok e) = record { number = 0; first = end_case e; second = end_index e; third = 0 }
endpoint_told (Err e) = refused e

-- ---- 2 where fewer than three words are lent for the counts, in document 01's place: after 1, and before what follows
unfoldable pub told_number : ℕ → ℕ → ℕ
told_number room k = if k == 1 then 1 else or_else (refuse 2 (3 ≤? room)) k

abbrev pub told_counts : Told → List ℕ
told_counts t = t.first ∷ t.second ∷ t.third ∷ []

-- n is the table of counts as it was lent, n' as it comes back
pub record Tells (t : Told) (n n' : List ℕ) (r : ℕ) : Type 0 where
  pub answer : r ≡ told_number (length n) t.number
  pub counts : n' ≡ held r (told_counts t) (length n)

-- a table that stays after a success, and is 0 after a refusal
abbrev pub kept : ℕ → List ℕ → List ℕ
kept zero ws = ws
kept (suc k) ws = zeros (length ws)

pub record TellsOne (t : Told) (a n a' n' : List ℕ) (r : ℕ) : Type 0 where
  pub tells : Tells t n n' r
  pub first : a' ≡ kept r a

pub record TellsTwo (t : Told) (a b n a' b' n' : List ℕ) (r : ℕ) : Type 0 where
  pub tells : TellsOne t a n a' n' r
  pub second : b' ≡ kept r b

pub record TellsThree (t : Told) (a b c n a' b' c' n' : List ℕ) (r : ℕ) : Type 0 where
  pub tells : TellsTwo t a b n a' b' n' r
  pub third : c' ≡ kept r c
