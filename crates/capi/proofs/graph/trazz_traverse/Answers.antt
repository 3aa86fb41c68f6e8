use Rattle.capi.proofs.ToldGraph.{traverse_told}
use Rattle.capi.proofs.graph.trazz_traverse.Goals as goal

pub returns : goal.returns
returns c = search traverse_told
