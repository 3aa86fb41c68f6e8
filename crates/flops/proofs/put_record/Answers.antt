use Rattle.flops.proofs.Flopping.{three-written}
use Rattle.flops.proofs.put_record.Goals as goal

pub returns : goal.returns
returns c = search three-written
