use Rattle.levels.proofs.Raises.{leads_source, leads_stop, leads_gate}
use Rattle.levels.proofs.operands_at.Goals as goal

pub returns-then-tag-ne1 : goal.returns-then-tag-ne1
returns-then-tag-ne1 c = search leads_source

pub returns-then-stop-ne0 : goal.returns-then-stop-ne0
returns-then-stop-ne0 c = search leads_stop

pub returns : goal.returns
returns c = search leads_gate
