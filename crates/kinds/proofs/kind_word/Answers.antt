use Rattle.kinds.proofs.Whole.{words, word_is}
use Rattle.kinds.proofs.kind_word.Goals as goal

pub returns : goal.returns
unfolding words
returns c = word_is c.args.kind c.args.name c.requires.kind_bound c.requires.name_bound
