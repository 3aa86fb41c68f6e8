use Rattle.capi.proofs.ToldStage.{stages-told}
use Rattle.capi.proofs.stage.trazz_stages.Goals as goal

pub returns : goal.returns
returns c = search stages-told
