use Rattle.clears.proofs.Clearing.{clear_listing, clear_done}
use Rattle.clears.proofs.clear.Goals as goal

pub forget-requires : goal.forget-requires
forget-requires c = search clear_listing

pub returns : goal.returns
returns c = search clear_done
