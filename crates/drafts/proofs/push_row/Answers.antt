use Rattle.drafts.proofs.Steps.{push_full, push_made}
use Rattle.drafts.proofs.push_row.Goals as goal

pub returns-then-drivers-row : goal.returns-then-drivers-row
returns-then-drivers-row c = λ at w h. push_full at w _ _ _ h (search)

pub returns : goal.returns
returns c = λ at w h. search (push_made at w, h)
