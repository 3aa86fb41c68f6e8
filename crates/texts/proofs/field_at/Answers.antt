use Rattle.texts.proofs.Numbers.{field_read}
use Rattle.texts.proofs.field_at.Goals as goal

pub returns : goal.returns
returns c = search field_read
