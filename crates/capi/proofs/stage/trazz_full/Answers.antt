use Rattle.capi.proofs.ToldStage.{full_told}
use Rattle.capi.proofs.stage.trazz_full.Goals as goal

pub returns : goal.returns
returns c = search full_told
