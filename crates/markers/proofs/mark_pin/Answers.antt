use Rattle.markers.proofs.Carrying.{takes_inside, pin_marked}
use borrow.Author.Rules.{rules}
use Rattle.markers.proofs.mark_pin.Goals as goal

pub carried-mark-requires : goal.carried-mark-requires
carried-mark-requires c = record { m_in_bounds = search rules; inside = search takes_inside }

pub returns : goal.returns
returns c = search pin_marked
