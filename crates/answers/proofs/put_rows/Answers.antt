use Rattle.answers.proofs.Lines.{rows_begin, rows_go_on, rows_end}
use borrow.Author.Rules.{rules}
use Rattle.answers.proofs.put_rows.Goals as goal

pub loop-init : goal.loop-init
loop-init c = (search rows_begin, search rules)

pub loop-preserved : goal.loop-preserved
loop-preserved c = (search rows_go_on, search rules)

pub returns : goal.returns
returns c = search rows_end
