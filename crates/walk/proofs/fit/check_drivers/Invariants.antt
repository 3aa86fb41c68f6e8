use Rattle.walk.proofs.Fits.{Fit}
use Rattle.walk.proofs.fit.check_drivers.Given as goal

abbrev pub invariant-loop-u : goal.invariant-loop-u
invariant-loop-u l = Fit l.drivers l.u
