use Rattle.reads.proofs.Numbers.{ram_first, ram_address, ram_data}
use Rattle.reads.proofs.ram_word.Goals as goal

pub returns-then-i-eq0 : goal.returns-then-i-eq0
returns-then-i-eq0 c = search ram_first

pub returns-then-i-lt27 : goal.returns-then-i-lt27
returns-then-i-lt27 c = search ram_address

pub returns : goal.returns
returns c = search ram_data
