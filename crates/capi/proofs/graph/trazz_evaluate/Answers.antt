use Rattle.capi.proofs.ToldGraph.{evaluate_told}
use Rattle.capi.proofs.graph.trazz_evaluate.Goals as goal

pub returns : goal.returns
returns c = search evaluate_told
