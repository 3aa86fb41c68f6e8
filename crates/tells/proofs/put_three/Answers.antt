use Rattle.tells.proofs.Telling.{three-put}
use Rattle.tells.proofs.put_three.Goals as goal

pub returns : goal.returns
returns c = search three-put
