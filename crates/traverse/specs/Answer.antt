-- What a traversal asked alone answers and leaves, and the parts of its number as the code tests them.
use Rattle.std.specs.Prelude.{◌≡◌, Result, Bool, true, ◌&&◌, List, ℕ, ◌+◌, length, if◌then◌else◌}
use Rattle.laws.specs.Tests.{◌<?◌, ◌≤?◌, or_else, refuse}
use Rattle.laws.specs.Lists.{keep, upto}
use Rattle.laws.specs.Words.{zeros}
use Rattle.rules.specs.declared.Refusal.{Refusal}
use Rattle.rules.specs.Bounds.{max_list, stage_work}
use Rattle.rules.specs.Stages.{traversal}
use Rattle.rules.specs.Tables.{held}
use Rattle.rules.specs.Refusals.{below}
use Rattle.rules.specs.Answers.{answer_of, drivers_number, drivers_graph, traverse_number}

-- ---- the whole promise: o and w are the order and the work words as they were lent, o' and w' as they come back
abbrev pub number_of : List ℕ → ℕ → Bool → List ℕ → List ℕ → List ℕ → List ℕ → ℕ
number_of ws pins given roots handed o w = traverse_number pins ws given roots handed (length o) (length w)

abbrev pub visit_order : List ℕ → ℕ → Bool → List ℕ → List ℕ → List ℕ
visit_order ws pins given roots handed = traversal (drivers_graph pins ws) given roots handed

pub record Traversed (ws : List ℕ) (pins : ℕ) (given : Bool) (roots handed o w o' w' : List ℕ) (r : Result ℕ Refusal) : Type 0 where
  pub answer : r ≡ answer_of (number_of ws pins given roots handed o w) (length (visit_order ws pins given roots handed))
  pub order : o' ≡ held (number_of ws pins given roots handed o w) (visit_order ws pins given roots handed) (length o)
  pub work : w' ≡ zeros (length w)

-- ---- the number as the code tests it. 1, beside the pin count: the lists and the room
abbrev pub lists_fit : ℕ → ℕ → ℕ → Bool
lists_fit roots handed room = (roots ≤? max_list) && (handed ≤? max_list) && (room ≤? max_list)

-- 15, what speaks of ranges
abbrev pub indexes_fit : ℕ → Bool → List ℕ → List ℕ → Bool
indexes_fit m given roots handed = (if given then below m roots else true) && below m handed

-- the number that shows without work words
unfoldable pub early_number : List ℕ → ℕ → Bool → List ℕ → List ℕ → ℕ → ℕ → ℕ
early_number ws pins given roots handed room work =
    or_else (drivers_number pins ws (lists_fit (length roots) (length handed) room) (stage_work pins 0 ≤? work))
    (refuse 15 (indexes_fit (pins + 1) given roots handed))

-- the pins below m from 1 upward
abbrev pub upward : ℕ → List ℕ
upward m = keep (λ p. 0 <? p) (upto m)

-- the pins that are visited: the roots where they are given, else those from 1 upward
abbrev pub asked : ℕ → Bool → List ℕ → List ℕ
asked m given roots = if given then roots else upward m
