use Rattle.capi.proofs.ToldEnds.{staged_told_lem}
use Rattle.capi.proofs.endpoints.trazz_staged_endpoint.Goals as goal

pub returns : goal.returns
returns c = search staged_told_lem
