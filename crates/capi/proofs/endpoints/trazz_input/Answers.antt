use Rattle.capi.proofs.ToldEnds.{input_told}
use Rattle.capi.proofs.endpoints.trazz_input.Goals as goal

pub returns : goal.returns
returns c = search input_told
