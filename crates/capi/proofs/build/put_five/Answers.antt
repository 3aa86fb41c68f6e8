use Rattle.capi.proofs.ToldBuild.{five_put}
use Rattle.capi.proofs.build.put_five.Goals as goal

pub returns : goal.returns
returns c = search five_put
