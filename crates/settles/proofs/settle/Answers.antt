use mathlib.Core.List.{[]}
use Rattle.settles.proofs.Settles.{settle_set, settle_done}
use Rattle.settles.proofs.settle.Goals as goal

pub leave-requires : goal.leave-requires
leave-requires c = record { takens = search; set_in = settle_set c.args.m c.args.ends c.args.left _ [] _ _ c.clear.ensures c.requires.set_in _ c.add_stops.ensures }

pub returns : goal.returns
returns c = settle_done c.args.m c.args.ends c.args.left _ _ _ _ c.clear.ensures c.requires.set_in _ c.add_stops.ensures _ _ c.leave.ensures
