use Rattle.joins.proofs.Joins.{none_read, first_below, second_below, both_read, read_set}
use Rattle.joins.proofs.read_operands.Goals as goal

pub returns-in_default : goal.returns-in_default
returns-in_default c = search (none_read, c.in_default.ensures)

pub read_one-fewer-requires : goal.read_one-fewer-requires
read_one-fewer-requires c = let o = c.in-Some.ensures in record { set_in = search; o_lt_m = search first_below }

pub read_one-requires : goal.read_one-requires
read_one-requires c = let o = c.in-Some.ensures in record { set_in = search read_set; o_lt_m = search second_below }

pub returns : goal.returns
returns c = search (both_read, c.in-Some.ensures)
