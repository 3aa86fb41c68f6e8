use Rattle.flags.proofs.Passing.{cell_flagged, cell_span}
use Rattle.clocks.proofs.Numbering.{ends_behind}
use Rattle.flags.proofs.cell_flags.Goals as goal

pub overflow_sub-count : goal.overflow_sub-count
overflow_sub-count c = search ends_behind

pub list_flags-requires-clause-span : goal.list_flags-requires-clause-span
list_flags-requires-clause-span c = search cell_span

pub returns : goal.returns
returns c = search cell_flagged
