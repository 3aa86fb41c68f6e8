use mathlib.Core.Path.{sym, ◌∙◌}
use Rattle.netlist.proofs.Steps.{slots_fail, twice_fails, musts_tell, now_sorted}
use Rattle.netlist.proofs.pins_right.Goals as goal
use Rattle.netlist.proofs.pins_right.Goals.{then-pins_allowed, else-pins_allowed}

pub none_twice-requires : goal.none_twice-requires
none_twice-requires c = record { sorted = search now_sorted; clear = search }

pub returns-then-none_twice : goal.returns-then-none_twice
returns-then-none_twice c = elim c.if-pins_allowed.branch [
  | then-pins_allowed w ↦ search (musts_tell, sym w.value-is ∙ c.if-none_twice.true)
  | else-pins_allowed w ↦ absurd (cc)
]

pub returns-else-none_twice : goal.returns-else-none_twice
returns-else-none_twice c = rw c.if-none_twice.false (elim c.if-pins_allowed.branch [
  | then-pins_allowed w ↦ search (twice_fails, sym w.value-is ∙ c.if-none_twice.false)
  | else-pins_allowed w ↦ search slots_fail
])
