use Rattle.splits.proofs.Works.{work-set, work_done}
use Rattle.splits.proofs.work_out.Goals as goal

pub read_taken-requires : goal.read_taken-requires
read_taken-requires c = record { lent = search; reads_fit = search; takens = search; set_in = search work-set }

pub returns : goal.returns
returns c = search work_done
