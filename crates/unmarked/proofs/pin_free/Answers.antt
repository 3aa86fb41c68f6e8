use Rattle.unmarked.proofs.Freeing.{free_not_asked, free_by_word}
use Rattle.unmarked.proofs.pin_free.Goals as goal

pub returns-then-not-must : goal.returns-then-not-must
returns-then-not-must c = search free_not_asked

pub returns-else-not-must : goal.returns-else-not-must
returns-else-not-must c = search free_by_word
