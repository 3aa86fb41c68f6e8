use Rattle.walk.proofs.Fits.{fit_begins, fit_goes_on, fit_fails, fit_ends}
use borrow.Author.Tests.{not-true, not-false}
use Rattle.walk.proofs.fit.check_drivers.Goals as goal

pub returns-then-not-driver_fits : goal.returns-then-not-driver_fits
returns-then-not-driver_fits c = search (fit_fails, not-true)

pub loop-u-preserved : goal.loop-u-preserved
loop-u-preserved c = search (fit_goes_on, not-false)
