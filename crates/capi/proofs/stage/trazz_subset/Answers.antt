use Rattle.capi.proofs.ToldStage.{subset-told}
use Rattle.capi.proofs.stage.trazz_subset.Goals as goal

pub returns : goal.returns
returns c = search subset-told
