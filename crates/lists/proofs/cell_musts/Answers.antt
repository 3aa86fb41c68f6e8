use Rattle.std.proofs.Common.{rules}
use Rattle.lists.specs.Parts.{musts}
use Rattle.lists.proofs.cell_musts.Goals as goal

pub returns : goal.returns
unfolding musts
returns c = search rules
