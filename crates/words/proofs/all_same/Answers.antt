use mathlib.Core.Path.{◌∙◌}
use Rattle.words.proofs.Tables.{same_words-eqb}
use Rattle.words.proofs.all_same.Goals as goal

pub returns : goal.returns
returns c = c.eq.ensures ∙ same_words-eqb c.args.a.now c.args.b.now
