use Rattle.netlist.proofs.Numbers.{now_kinded, now_netted}
use Rattle.netlist.proofs.test_tables.Goals as goal

pub pins_fit-requires : goal.pins_fit-requires
pins_fit-requires c = record { kinded = search now_kinded; long = search }

pub nets_fit-requires : goal.nets_fit-requires
nets_fit-requires c = search (now_netted, c.if-not-pins_fit.false, c.pins_fit.ensures, c.requires)
