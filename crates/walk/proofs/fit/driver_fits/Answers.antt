use Rattle.walk.proofs.Fits.{words_say}
use Rattle.walk.proofs.fit.driver_fits.Goals as goal

pub returns : goal.returns
returns c = search words_say
