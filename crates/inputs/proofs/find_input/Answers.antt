use Rattle.inputs.proofs.Search.{seek_begins, seek_finds, seek_goes_on, seek_ends}
use native.Mathlib.Omega.{arith}
use Rattle.inputs.proofs.find_input.Goals as goal

pub loop-j-init : goal.loop-j-init
loop-j-init c = search seek_begins

pub read_pin-p-requires : goal.read_pin-p-requires
read_pin-p-requires c = record { lent = search; e_bound = search; i_bound = omega arith }

pub returns-then-is_wanted : goal.returns-then-is_wanted
returns-then-is_wanted c = search seek_finds

pub loop-j-preserved : goal.loop-j-preserved
loop-j-preserved c = search seek_goes_on

pub returns : goal.returns
returns c = search seek_ends
