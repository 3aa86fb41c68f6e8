use Rattle.graphs.proofs.Numbers.{drives_yes}
use Rattle.graphs.proofs.Numbers.{rows_long, all_clear, drives_no, records_tell}
use borrow.Author.Tests.{not-true, not-false}
use Rattle.graphs.proofs.graph_fits.Goals as goal

pub returns-then-not-check_drivers : goal.returns-then-not-check_drivers
returns-then-not-check_drivers c = search (drives_no, not-true)

pub records_fit-requires : goal.records_fit-requires
records_fit-requires c = record { pins_value = search (drives_yes, not-false); rows = search rows_long; clear = search all_clear }

pub returns : goal.returns
returns c = search (records_tell, not-false)
