use Rattle.splits.proofs.Gathering.{gather_lefts, gather_going, gather_spare, gather_ranks, gather_spare_levels, gather_done}
use Rattle.splits.proofs.gather.Goals as goal

pub visit_left-k-requires : goal.visit_left-k-requires
visit_left-k-requires c = record { lent = search; reads_fit = search; lefts = search gather_lefts; going = search gather_going; spare = search gather_spare }

pub level_all-requires : goal.level_all-requires
level_all-requires c = record { going = search; ranks = search gather_ranks; spare = search gather_spare_levels }

pub returns : goal.returns
returns c = search gather_done
