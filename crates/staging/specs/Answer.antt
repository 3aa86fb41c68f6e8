-- What build_staged_aigs answers and leaves: l, h, t and w are the tables as they were lent, l', h', t' and w' as they come back.
use Rattle.std.specs.Prelude.{Result, ◌≡◌, List, ℕ, length}
use Rattle.laws.specs.Words.{zeros}
use Rattle.rules.specs.declared.GraphCounts.{GraphCounts}
use Rattle.rules.specs.declared.Refusal.{Refusal}
use Rattle.rules.specs.declared.StagesSize.{StagesSize}
use Rattle.rules.specs.Tables.{GraphWords, graph_in, held, all_handed, all_taken}
use Rattle.rules.specs.Stages.{Row, stages}
use Rattle.rules.specs.Answers.{stages_number, stage_rows, answer_of, stages_size}

abbrev pub number_of : GraphCounts → GraphWords → List ℕ → ℕ → List ℕ → List ℕ → List ℕ → List ℕ → ℕ
number_of c g splits room l h t w = stages_number c g splits room (length l) (length h) (length t) (length w)

abbrev pub rows_of : GraphCounts → GraphWords → List ℕ → List Row
rows_of c g splits = stages (graph_in c g) splits

pub record AllStages (c : GraphCounts) (g : GraphWords) (splits : List ℕ) (room : ℕ) (l h t w l' h' t' w' : List ℕ) (r : Result StagesSize Refusal) : Type 0 where
  pub answer : r ≡ answer_of (number_of c g splits room l h t w) (stages_size (rows_of c g splits))
  pub rows : l' ≡ held (number_of c g splits room l h t w) (stage_rows (rows_of c g splits)) (length l)
  pub handed : h' ≡ held (number_of c g splits room l h t w) (all_handed (rows_of c g splits)) (length h)
  pub taken : t' ≡ held (number_of c g splits room l h t w) (all_taken (rows_of c g splits)) (length t)
  pub work : w' ≡ zeros (length w)
