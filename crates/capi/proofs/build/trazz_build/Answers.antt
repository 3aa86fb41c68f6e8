use Rattle.capi.proofs.ToldBuild.{build-told}
use Rattle.capi.proofs.build.trazz_build.Goals as goal

pub returns : goal.returns
returns c = search build-told
