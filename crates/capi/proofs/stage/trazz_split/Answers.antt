use Rattle.capi.proofs.ToldStage.{split-told}
use Rattle.capi.proofs.stage.trazz_split.Goals as goal

pub returns : goal.returns
returns c = search split-told
