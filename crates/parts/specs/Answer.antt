-- What a split asked alone answers and leaves: h, t and w are the tables as they were lent, h', t' and w' as they come back.
use Rattle.std.specs.Prelude.{Some, Result, ◌≡◌, List, ℕ, length}
use Rattle.laws.specs.Words.{zeros}
use Rattle.rules.specs.declared.GraphCounts.{GraphCounts}
use Rattle.rules.specs.declared.Refusal.{Refusal}
use Rattle.rules.specs.declared.StageSize.{StageSize}
use Rattle.rules.specs.Tables.{GraphWords, graph_in, held}
use Rattle.rules.specs.Stages.{Stage, split}
use Rattle.rules.specs.Answers.{split_number, answer_of, stage_size}

abbrev pub number_of : GraphCounts → GraphWords → List ℕ → List ℕ → ℕ → List ℕ → List ℕ → List ℕ → ℕ
number_of c g chosen before level h t w = split_number c g chosen before level (length h) (length t) (length w)

abbrev pub stage_of : GraphCounts → GraphWords → List ℕ → List ℕ → ℕ → Stage
stage_of c g chosen before level = split (graph_in c g) chosen before (Some level)

pub record Split (c : GraphCounts) (g : GraphWords) (chosen before : List ℕ) (level : ℕ) (h t w h' t' w' : List ℕ) (r : Result StageSize Refusal) : Type 0 where
  pub answer : r ≡ answer_of (number_of c g chosen before level h t w) (stage_size (stage_of c g chosen before level))
  pub handed : h' ≡ held (number_of c g chosen before level h t w) (stage_of c g chosen before level).handed (length h)
  pub taken : t' ≡ held (number_of c g chosen before level h t w) (stage_of c g chosen before level).taken (length t)
  pub work : w' ≡ zeros (length w)
