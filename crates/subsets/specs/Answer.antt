-- What the calls that read no driver answer and leave, and the parts of their numbers as the code tests them.
use Rattle.std.specs.Prelude.{◌≡◌, Result, Bool, true, ◌&&◌, List, [], ◌∷◌, map, ℕ, suc, ◌+◌, ◌-◌, ◌<◌, ◌≤◌, length, get_or, drop, if◌then◌else◌}
use Rattle.laws.specs.Tests.{◌<?◌, ◌≤?◌, or_else, refuse}
use Rattle.laws.specs.Lists.{every, upto}
use Rattle.laws.specs.Words.{zeros}
use Rattle.rules.specs.declared.Endpoint.{Endpoint}
use Rattle.rules.specs.declared.Endpoint.TheVariants.{Handed}
use Rattle.rules.specs.declared.GraphCounts.{GraphCounts}
use Rattle.rules.specs.declared.Refusal.{Refusal}
use Rattle.rules.specs.declared.StageSize.{StageSize}
use Rattle.rules.specs.Bounds.{max_list, graph_within}
use Rattle.rules.specs.Stages.{Stage, endpoint_by, full_stage, subset}
use Rattle.rules.specs.Tables.{held}
use Rattle.rules.specs.Refusals.{below}
use Rattle.rules.specs.Answers.{answer_of, stage_size, endpoints, full_number, subset_number}

abbrev pub stage_of : List ℕ → List ℕ → Stage
stage_of handed taken = record { handed = handed; taken = taken }

-- ---- an endpoint of a stage by its place
-- 15: the place is past both lists, or the endpoint there is past the count
abbrev pub staged_there : GraphCounts → ℕ → List ℕ → ℕ → Bool
staged_there c handed taken i =
    if i <? handed then true else ((i - handed <? length taken) && (get_or taken (i - handed) 0 <? endpoints c))

unfoldable pub staged_number : GraphCounts → Stage → ℕ → ℕ
staged_number c s i =
    or_else (refuse 1 (graph_within c && (length s.handed ≤? max_list) && (length s.taken ≤? max_list)))
    (refuse 15 (staged_there c (length s.handed) s.taken i))

-- the rules' `stage_endpoint`, of a graph with these counts
abbrev pub staged_by : GraphCounts → Stage → ℕ → Endpoint
staged_by c s i =
    if i <? length s.handed
    then Handed (get_or s.handed i 0)
    else endpoint_by c.outputs c.dffs (get_or s.taken (i - length s.handed) 0)

-- ---- the whole graph as one stage: t is the table as it was lent, t' as it comes back
pub record FullStaged (c : GraphCounts) (t t' : List ℕ) (r : Result StageSize Refusal) : Type 0 where
  pub answer : r ≡ answer_of (full_number c (length t)) (stage_size (full_stage (endpoints c)))
  pub taken : t' ≡ held (full_number c (length t)) (upto (endpoints c)) (length t)

-- ---- a subset: the number as the code tests it
abbrev pub lists_fit : ℕ → ℕ → ℕ → ℕ → ℕ → Bool
lists_fit handed taken is handed_room taken_room =
    (handed ≤? max_list) && (taken ≤? max_list) && (is ≤? max_list) && (handed_room ≤? max_list) && (taken_room ≤? max_list)

-- how many places before the first that is not below h
abbrev pub leading : ℕ → List ℕ → ℕ
leading h [] = 0
leading h (i ∷ is) = if i <? h then suc (leading h is) else 0

-- each place from a on is at least h
unfoldable pub all_from : List ℕ → ℕ → ℕ → Bool
all_from is a h = every (λ j. h ≤? j) (drop a is)

unfoldable pub places_number : ℕ → ℕ → List ℕ → ℕ → ℕ → ℕ
places_number handed taken is handed_room taken_room =
    or_else (refuse 15 (below (handed + taken) is && all_from is (leading handed is) handed))
    (refuse 11 ((leading handed is ≤? handed_room) && (length is - leading handed is ≤? taken_room)))

-- n places from a on, each at least h and less h below the size
pub record Places (is : List ℕ) (a n h size : ℕ) : Type 0 where
  pub long : a + n ≤ length is
  pub least : (j : ℕ) → j < n → h ≤ get_or is (a + j) 0
  pub inside : (j : ℕ) → j < n → get_or is (a + j) 0 - h < size

abbrev pub placed : List ℕ → ℕ → List ℕ → List ℕ
placed t h is = map (λ i. get_or t (i - h) 0) is

-- h and t are the tables as they were lent, h' and t' as they come back
pub record Subsetted (s : Stage) (is h t h' t' : List ℕ) (r : Result StageSize Refusal) : Type 0 where
  pub answer : r ≡ answer_of (subset_number s is (length h) (length t)) (stage_size (subset s is))
  pub handed : h' ≡ held (subset_number s is (length h) (length t)) (subset s is).handed (length h)
  pub taken : t' ≡ held (subset_number s is (length h) (length t)) (subset s is).taken (length t)

-- a subset that is not refused, where the tables are 0 and the first n places are those of handed-on pins
pub record Ready (s : Stage) (is : List ℕ) (n : ℕ) (h t : List ℕ) : Type 0 where
  pub number : subset_number s is (length h) (length t) ≡ 0
  pub lead : n ≡ leading (length s.handed) is
  pub inside : n ≤ length is
  pub few : length is ≤ max_list
  pub handed_zero : h ≡ zeros (length h)
  pub taken_zero : t ≡ zeros (length t)
