use Rattle.roles.proofs.Roles.{and_told}
use Rattle.roles.proofs.and_role.Goals as goal

pub returns : goal.returns
returns c = search and_told
