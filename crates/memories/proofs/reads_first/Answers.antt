use Rattle.memories.proofs.Remembering.{name_place, name_told, name_none}
use Rattle.memories.proofs.reads_first.Goals as goal

pub pin_word-requires : goal.pin_word-requires
pin_word-requires c = search name_place

pub returns-in-Some : goal.returns-in-Some
returns-in-Some c = search name_told

pub returns-in-None : goal.returns-in-None
returns-in-None c = search name_none
