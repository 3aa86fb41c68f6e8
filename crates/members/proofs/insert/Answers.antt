use Rattle.members.proofs.Changes.{insert_again, insert_joins}
use Rattle.members.proofs.insert.Goals as goal

pub returns-then-place-ne0 : goal.returns-then-place-ne0
returns-then-place-ne0 c = search insert_again

pub returns : goal.returns
returns c = search insert_joins
