use Rattle.roles.proofs.Roles.{one_first, one_none}
use Rattle.roles.proofs.one_entry.Goals as goal

pub returns-in-0 : goal.returns-in-0
returns-in-0 c = search one_first

pub returns-in_default : goal.returns-in_default
returns-in_default c = search one_none
