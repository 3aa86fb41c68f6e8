use Rattle.std.proofs.Common.{◌-◌, ◌≤◌, length}
use Rattle.trazz_run.proofs.run.Given as goal

abbrev pub invariant-loop-e : goal.invariant-loop-e
invariant-loop-e g l = l.e ≤ length l.all

abbrev pub decreases-loop-e : goal.decreases-loop-e
decreases-loop-e g l = length l.all - l.e
