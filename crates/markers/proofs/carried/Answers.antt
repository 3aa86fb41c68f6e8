use Rattle.markers.proofs.Carrying.{same_inside, inv_inside}
use Rattle.markers.proofs.carried.Goals as goal

pub at-requires : goal.at-requires
at-requires c = search inv_inside

pub at-requires-in-Wire : goal.at-requires-in-Wire
at-requires-in-Wire c = search same_inside
