use Rattle.fanouts.proofs.Passes.{sum_asks, no_room, placing_begins, fans_out}
use native.Mathlib.Omega.{arith}
use Rattle.fanouts.proofs.fan_out.Goals as goal

pub count_readers-requires : goal.count_readers-requires
count_readers-requires c = record { operands = search; m_in_bounds = omega arith; m_in_bounds_2 = omega arith; m_bound = omega arith; starts_value = search }

pub sum_up-requires : goal.sum_up-requires
sum_up-requires c = record { long_in_bounds = omega arith; long_bound = search sum_asks }

pub returns-then-lists-total : goal.returns-then-lists-total
returns-then-lists-total c = search no_room

pub put_readers-requires : goal.put_readers-requires
put_readers-requires c = record { operands = search; m_in_bounds = omega arith; m_bound = omega arith; placing = placing_begins c.args.drivers.now c.args.pins c.args.starts.now c.args.lists.now c.requires.pins_bound c.requires.operands c.requires.pins_in_bounds_2 c.requires.starts_value c.requires.lists_value _ c.count_readers.ensures _ c.sum_up.ensures _ c.word-total.ensures c.if-lists-total.false }

pub returns : goal.returns
returns c = search fans_out
