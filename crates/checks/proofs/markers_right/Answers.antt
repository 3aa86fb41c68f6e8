use Rattle.checks.proofs.Chain.{now_told, tested}
use borrow.Author.Rules.{rules}
use Rattle.checks.proofs.markers_right.Goals as goal

pub markers_free-requires : goal.markers_free-requires
markers_free-requires c = record { fits = search rules; told = search now_told }

pub returns : goal.returns
returns c = search tested
