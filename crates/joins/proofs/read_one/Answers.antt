use Rattle.joins.proofs.Reading.{more-read, last_set, last_read}
use Rattle.joins.proofs.read_one.Goals as goal

pub returns-then-r-gt1 : goal.returns-then-r-gt1
returns-then-r-gt1 c = search more-read

pub remove-requires : goal.remove-requires
remove-requires c = record { set_in = search last_set; x_lt_cap = search }

pub returns : goal.returns
returns c = search last_read
