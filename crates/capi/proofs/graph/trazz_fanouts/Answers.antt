use Rattle.capi.proofs.ToldGraph.{fanouts-told}
use Rattle.capi.proofs.graph.trazz_fanouts.Goals as goal

pub returns : goal.returns
returns c = search fanouts-told
