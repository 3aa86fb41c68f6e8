use Rattle.capi.proofs.ToldGraph.{check-told}
use Rattle.capi.proofs.graph.trazz_check_graph.Goals as goal

pub returns : goal.returns
returns c = search check-told
