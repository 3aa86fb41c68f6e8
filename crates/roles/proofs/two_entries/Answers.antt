use Rattle.roles.proofs.Roles.{two_first, two_second, two_none}
use Rattle.roles.proofs.two_entries.Goals as goal

pub returns-in-0 : goal.returns-in-0
returns-in-0 c = search two_first

pub returns-in-1 : goal.returns-in-1
returns-in-1 c = search two_second

pub returns-in_default : goal.returns-in_default
returns-in_default c = search two_none
