use Rattle.answers.proofs.Lines.{source_const, source_and, source_port, source_flag, source_dff, source_ram}
use Rattle.answers.proofs.put_source.Goals as goal

pub returns-in-0 : goal.returns-in-0
returns-in-0 c = search source_const

pub returns-in-1 : goal.returns-in-1
returns-in-1 c = search source_and

pub returns-in-2 : goal.returns-in-2
returns-in-2 c = search source_port

pub returns-in-3 : goal.returns-in-3
returns-in-3 c = search source_flag

pub returns-in-4 : goal.returns-in-4
returns-in-4 c = search source_dff

pub returns-in_default : goal.returns-in_default
returns-in_default c = search source_ram
