use Rattle.netlist.proofs.Whole.{now_long}
use Rattle.netlist.proofs.test_netlist.Goals as goal

pub test_tables-requires : goal.test_tables-requires
test_tables-requires c = search (now_long, c.if-not-long.false, c.netlist_long-long.ensures, c.if-work-room.false, c.requires)
