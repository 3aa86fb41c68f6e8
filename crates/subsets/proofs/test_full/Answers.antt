use Rattle.subsets.proofs.Full.{full_1, full_1_room, full_11, full_0}
use borrow.Author.Tests.{not-true, not-false}
use Rattle.subsets.proofs.test_full.Goals as goal

pub returns-then-not-counts_fit : goal.returns-then-not-counts_fit
returns-then-not-counts_fit c = search (full_1, not-true)

pub returns-then-room-gt16777215 : goal.returns-then-room-gt16777215
returns-then-room-gt16777215 c = search (full_1_room, not-false)

pub returns-then-room-n : goal.returns-then-room-n
returns-then-room-n c = search (full_11, not-false)

pub returns : goal.returns
returns c = search (full_0, not-false)
