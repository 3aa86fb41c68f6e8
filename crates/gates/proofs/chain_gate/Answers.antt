use Rattle.gates.proofs.Find.{chain_is}
use Rattle.gates.proofs.chain_gate.Goals as goal

pub returns : goal.returns
returns c = search chain_is
