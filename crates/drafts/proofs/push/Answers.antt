use Rattle.drafts.proofs.push.Goals as goal

pub returns : goal.returns
returns c = c.push_row.ensures _ _ c.requires.table
