use Prim.Native.Nat.{◌<◌}
use Rattle.repeats.proofs.Stamps.{stamping_begins, stamping_more, stamping_fails, stamping_ends, entry_long, cell_long, at_inside, code_small}
use native.Mathlib.Omega.{arith}
use Rattle.repeats.proofs.none_twice.Goals as goal

pub loop-entry-init : goal.loop-entry-init
loop-entry-init c = search stamping_begins

pub pin_code-code-requires : goal.pin_code-code-requires
pin_code-code-requires c = search entry_long

pub pin_word-cell-requires : goal.pin_word-cell-requires
pin_word-cell-requires c = search cell_long

pub overflow_add-base : goal.overflow_add-base
overflow_add-base c = let small : c.pin_code-code.result < 544 = search code_small in omega arith

pub stamp-requires : goal.stamp-requires
stamp-requires c = search at_inside

pub returns-then-not-stamp : goal.returns-then-not-stamp
returns-then-not-stamp c = search stamping_fails

pub loop-entry-preserved : goal.loop-entry-preserved
loop-entry-preserved c = search stamping_more

pub returns : goal.returns
returns c = search stamping_ends
