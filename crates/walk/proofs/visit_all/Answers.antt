use Rattle.walk.proofs.Visits.{visits_begin, visits_go_on, visits_end}
use Rattle.laws.proofs.Words.{word_below}
use Rattle.walk.proofs.visit_all.Goals as goal

pub loop-root-init : goal.loop-root-init
loop-root-init c = search visits_begin

pub visit-k-requires : goal.visit-k-requires
visit-k-requires c = record { going = search; root_lt_m = search word_below }

pub loop-root-preserved : goal.loop-root-preserved
loop-root-preserved c = search visits_go_on

pub returns : goal.returns
returns c = search visits_end
