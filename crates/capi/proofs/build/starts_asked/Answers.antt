use Rattle.capi.proofs.ToldBuild.{starts_none, starts_all}
use Rattle.capi.proofs.build.starts_asked.Goals as goal

pub returns-then-room-lt5 : goal.returns-then-room-lt5
returns-then-room-lt5 c = search starts_none

pub returns : goal.returns
returns c = search starts_all
