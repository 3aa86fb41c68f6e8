use Rattle.clocks.proofs.Numbering.{number-none, number-walk}
use Rattle.clocks.proofs.numbers.test_clock.Goals as goal

pub returns-then-not-clock : goal.returns-then-not-clock
returns-then-not-clock c = search number-none

pub returns : goal.returns
returns c = search number-walk
