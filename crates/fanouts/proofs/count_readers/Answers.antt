use Rattle.fanouts.proofs.Counts.{counts_begin, countable, counts_go_on, counts_end}
use native.Mathlib.Omega.{arith}
use Rattle.fanouts.proofs.count_readers.Goals as goal

pub loop-u-init : goal.loop-u-init
loop-u-init c = search counts_begin

pub count_gate-requires : goal.count_gate-requires
count_gate-requires c = record { u_in_bounds = omega arith; countable = search countable }

pub loop-u-preserved : goal.loop-u-preserved
loop-u-preserved c = search counts_go_on

pub returns : goal.returns
returns c = search counts_end
