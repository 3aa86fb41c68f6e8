use Rattle.flags.proofs.Passing.{end_root, end_none}
use Rattle.flags.proofs.end_flag.Goals as goal

pub returns-in-Root : goal.returns-in-Root
returns-in-Root c = search end_root

pub returns-in-Still : goal.returns-in-Still
returns-in-Still c = search end_none
