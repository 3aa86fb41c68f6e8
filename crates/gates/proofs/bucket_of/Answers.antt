use Rattle.gates.proofs.Find.{bucket_is, bucket_low}
use Rattle.gates.proofs.bucket_of.Goals as goal

pub returns : goal.returns
returns c = record { value = search bucket_is; upper_bound = search bucket_low }
