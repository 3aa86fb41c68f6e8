use Rattle.reads.proofs.Numbers.{long_output, long_dff, long_ram}
use Rattle.reads.proofs.reads_count.Goals as goal

pub returns-then-e-outputs : goal.returns-then-e-outputs
returns-then-e-outputs c = search long_output

pub returns-then-e-outputs-2 : goal.returns-then-e-outputs-2
returns-then-e-outputs-2 c = search long_dff

pub returns : goal.returns
returns c = search long_ram
