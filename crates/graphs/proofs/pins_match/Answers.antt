use Rattle.graphs.proofs.Steps.{clear_first, clear_second, flops_differ, memories_tell}
use borrow.Author.Tests.{not-true, not-false}
use Rattle.graphs.proofs.pins_match.Goals as goal

pub dffs_match-requires : goal.dffs_match-requires
dffs_match-requires c = record { pins_value = search; clear = search clear_first; rows = search }

pub returns-then-not-dffs_match : goal.returns-then-not-dffs_match
returns-then-not-dffs_match c = search (flops_differ, not-true)

pub rams_match-requires : goal.rams_match-requires
rams_match-requires c = record { pins_value = search; clear = search (clear_second, not-false); rows = search }

pub returns : goal.returns
returns c = search (memories_tell, not-false)
