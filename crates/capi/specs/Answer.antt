-- What each exported call answers and leaves: the number and the tables of the call below it, with its counts in a table n of three words or
-- more. A table is named as it was lent, and with ' as it comes back. A table of counts that is too short is a refusal 2, by `told_number`.
use Rattle.std.specs.Prelude.{◌≡◌, Bool, List, [], ◌∷◌, ℕ, length, get_or}
use Rattle.laws.specs.Lists.{upto}
use Rattle.laws.specs.Words.{zeros}
use Rattle.rules.specs.declared.Endpoint.{Endpoint}
use Rattle.rules.specs.declared.GraphCounts.{GraphCounts}
use Rattle.rules.specs.Build.{fanouts, fanout_starts}
use Rattle.rules.specs.Stages.{Stage, Row, endpoint_by, inputs, subset}
use Rattle.rules.specs.Tables.{drivers_in, graph_in, held, all_handed, all_taken}
use Rattle.rules.specs.Answers.{endpoints, check_graph_number, evaluate_number, pin_bits, fanouts_number, traverse_number, endpoint_number, input_number, place_inputs, stage_input_number, full_number, subset_number, split_number, stages_number, stage_rows}
use Rattle.graphs.specs.Parts.{lent}
use Rattle.reads.specs.Reads.{records_of}
use Rattle.traverse.specs.Answer.{visit_order}
use Rattle.subsets.specs.Answer.{stage_of, staged_number, staged_by}
use Rattle.parts.specs.Answer.{stage_of as split_of}
use Rattle.staging.specs.Answer.{rows_of}
use Rattle.tells.specs.Telling.{told_number, end_case, end_index}

abbrev pub counts_of : ℕ → ℕ → ℕ → ℕ → GraphCounts
counts_of pins outputs dffs rams = record { pins = pins; outputs = outputs; dffs = dffs; rams = rams }

-- ---- the graph check
pub record Checked (c : GraphCounts) (ws os ds rs w w' : List ℕ) (r : ℕ) : Type 0 where
  pub answer : r ≡ check_graph_number c (lent ws os ds rs) (length w)
  pub work : w' ≡ zeros (length w)

-- ---- calls on a driver table
pub record Evaluated (ws : List ℕ) (pins : ℕ) (sources bits bits' : List ℕ) (r : ℕ) : Type 0 where
  pub answer : r ≡ evaluate_number pins ws sources (length bits)
  pub held_bits : bits' ≡ held r (pin_bits pins ws sources) (length bits)

pub record FannedOut (ws : List ℕ) (pins : ℕ) (s l s' l' : List ℕ) (r : ℕ) : Type 0 where
  pub answer : r ≡ fanouts_number pins ws (length s) (length l)
  pub held_starts : s' ≡ held r (fanout_starts (drivers_in ws pins)) (length s)
  pub held_lists : l' ≡ held r (fanouts (drivers_in ws pins)) (length l)

pub record Traversed (ws : List ℕ) (pins : ℕ) (given : Bool) (roots handed o n w o' n' w' : List ℕ) (r : ℕ) : Type 0 where
  pub answer : r ≡ told_number (length n) (traverse_number pins ws given roots handed (length o) (length w))
  pub order : o' ≡ held r (visit_order ws pins given roots handed) (length o)
  pub counts : n' ≡ held r (length (visit_order ws pins given roots handed) ∷ 0 ∷ 0 ∷ []) (length n)
  pub work : w' ≡ zeros (length w)

-- ---- endpoints, and what they read
abbrev pub end_words : Endpoint → List ℕ
end_words e = end_case e ∷ end_index e ∷ 0 ∷ []

pub record EndFound (c : GraphCounts) (e : ℕ) (n n' : List ℕ) (r : ℕ) : Type 0 where
  pub answer : r ≡ told_number (length n) (endpoint_number c e)
  pub counts : n' ≡ held r (end_words (endpoint_by c.outputs c.dffs e)) (length n)

pub record StagedFound (c : GraphCounts) (handed taken : List ℕ) (i : ℕ) (n n' : List ℕ) (r : ℕ) : Type 0 where
  pub answer : r ≡ told_number (length n) (staged_number c (stage_of handed taken) i)
  pub counts : n' ≡ held r (end_words (staged_by c (stage_of handed taken) i)) (length n)

pub record InputRead (c : GraphCounts) (os ds rs : List ℕ) (e i : ℕ) (n n' : List ℕ) (r : ℕ) : Type 0 where
  pub answer : r ≡ told_number (length n) (input_number c (records_of os ds rs) e i)
  pub counts : n' ≡ held r (get_or (inputs (graph_in c (records_of os ds rs)) e) i 0 ∷ 0 ∷ 0 ∷ []) (length n)

pub record StagedRead (c : GraphCounts) (os ds rs handed taken : List ℕ) (k i : ℕ) (n n' : List ℕ) (r : ℕ) : Type 0 where
  pub answer : r ≡ told_number (length n) (stage_input_number c (records_of os ds rs) (stage_of handed taken) k i)
  pub counts : n' ≡ held r (get_or (place_inputs c (records_of os ds rs) (stage_of handed taken) k) i 0 ∷ 0 ∷ 0 ∷ []) (length n)

-- ---- stages
pub record FullStaged (c : GraphCounts) (t n t' n' : List ℕ) (r : ℕ) : Type 0 where
  pub answer : r ≡ told_number (length n) (full_number c (length t))
  pub taken : t' ≡ held r (upto (endpoints c)) (length t)
  pub counts : n' ≡ held r (0 ∷ endpoints c ∷ 0 ∷ []) (length n)

-- how many pins a stage hands on, and how many endpoints it takes
abbrev pub stage_counts : Stage → List ℕ
stage_counts s = length s.handed ∷ length s.taken ∷ 0 ∷ []

pub record Subsetted (s : Stage) (is h t n h' t' n' : List ℕ) (r : ℕ) : Type 0 where
  pub answer : r ≡ told_number (length n) (subset_number s is (length h) (length t))
  pub handed : h' ≡ held r (subset s is).handed (length h)
  pub taken : t' ≡ held r (subset s is).taken (length t)
  pub counts : n' ≡ held r (stage_counts (subset s is)) (length n)

pub record Split (c : GraphCounts) (ws os ds rs chosen before : List ℕ) (level : ℕ) (h t n w h' t' n' w' : List ℕ) (r : ℕ) : Type 0 where
  pub answer : r ≡ told_number (length n) (split_number c (lent ws os ds rs) chosen before level (length h) (length t) (length w))
  pub handed : h' ≡ held r (split_of c (lent ws os ds rs) chosen before level).handed (length h)
  pub taken : t' ≡ held r (split_of c (lent ws os ds rs) chosen before level).taken (length t)
  pub counts : n' ≡ held r (stage_counts (split_of c (lent ws os ds rs) chosen before level)) (length n)
  pub work : w' ≡ zeros (length w)

-- how many stages there are, how many pins they hand on in all, and how many endpoints they take
abbrev pub row_counts : List Row → List ℕ
row_counts rows = length rows ∷ length (all_handed rows) ∷ length (all_taken rows) ∷ []

pub record AllStages (c : GraphCounts) (ws os ds rs splits : List ℕ) (room : ℕ) (l h t n w l' h' t' n' w' : List ℕ) (r : ℕ) : Type 0 where
  pub answer : r ≡ told_number (length n) (stages_number c (lent ws os ds rs) splits room (length l) (length h) (length t) (length w))
  pub rows : l' ≡ held r (stage_rows (rows_of c (lent ws os ds rs) splits)) (length l)
  pub handed : h' ≡ held r (all_handed (rows_of c (lent ws os ds rs) splits)) (length h)
  pub taken : t' ≡ held r (all_taken (rows_of c (lent ws os ds rs) splits)) (length t)
  pub counts : n' ≡ held r (row_counts (rows_of c (lent ws os ds rs) splits)) (length n)
  pub work : w' ≡ zeros (length w)
