use Rattle.capi.proofs.ToldEnds.{staged_input_told}
use Rattle.capi.proofs.endpoints.trazz_staged_input.Goals as goal

pub returns : goal.returns
returns c = search staged_input_told
