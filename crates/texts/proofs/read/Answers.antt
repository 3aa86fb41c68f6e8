use Rattle.texts.proofs.Lines.{text_long}
use Rattle.texts.proofs.read.Goals as goal

pub returns-then-text-gt262144 : goal.returns-then-text-gt262144
returns-then-text-gt262144 c = search text_long
