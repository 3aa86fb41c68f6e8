use Rattle.capi.proofs.ToldEnds.{endpoint_told_lem}
use Rattle.capi.proofs.endpoints.trazz_endpoint.Goals as goal

pub returns : goal.returns
returns c = search endpoint_told_lem
