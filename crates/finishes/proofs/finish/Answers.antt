use Rattle.finishes.proofs.Copied.{all_copied}
use borrow.Author.Rules.{rules}
use Rattle.finishes.proofs.finish.Goals as goal

pub returns : goal.returns
returns c = record { fanned = search rules; literals_after = search all_copied }
