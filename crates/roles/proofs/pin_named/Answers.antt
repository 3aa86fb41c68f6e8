use Rattle.roles.proofs.Roles.{named_first}
use Rattle.roles.proofs.pin_named.Goals as goal

pub returns : goal.returns
returns c = search named_first
