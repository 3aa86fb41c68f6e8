-- Document 01's numbers hold of the rules: every question of the table has the answer wanted, by computation.
use mathlib.Core.Path.{◌≡◌, refl}
use mathlib.Core.List.{map}
use Rattle.rules.specs.Graph.{and_of}
use Rattle.rules.specs.Build.{step2, step3}
use Rattle.rules.specs.Stages.{split, stages_from}
use Rattle.rules.specs.Tables.{decode_at}
use Rattle.rules.specs.Answers.{stages_number}
use Rattle.rules.specs.Hand.{Case, table}

pub hand : map (λ (c : Case). c.asked) table ≡ map (λ (c : Case). c.wanted) table
unfolding and_of step2 step3 split stages_from decode_at stages_number
hand = refl
