use Rattle.capi.proofs.ToldBuild.{made_short, made_done}
use Rattle.capi.proofs.build.tell_made.Goals as goal

pub returns-then-counts-lt5 : goal.returns-then-counts-lt5
returns-then-counts-lt5 c = search made_short

pub returns : goal.returns
returns c = search made_done
