use mathlib.Core.Path.{sym, ◌∙◌}
use Rattle.netlist.proofs.Steps.{starts_fail, ranges_fail, lists_fail, lists_told, now_starts, clear_first}
use Rattle.netlist.proofs.lists_right.Goals as goal
use Rattle.netlist.proofs.lists_right.Goals.{then-starts_fit, else-starts_fit, then-pins_ranged, else-pins_ranged}

pub lists_fit-requires : goal.lists_fit-requires
lists_fit-requires c = elim c.if-starts_fit.branch [
  | then-starts_fit w ↦ record { starts = search now_starts; list_in_bounds = search }
  | else-starts_fit w ↦ absurd (cc)
]

pub mark_list-requires : goal.mark_list-requires
mark_list-requires c = search clear_first

pub returns-then-lists_fit : goal.returns-then-lists_fit
returns-then-lists_fit c = elim c.if-pins_ranged.branch [
  | then-pins_ranged w ↦ elim c.if-starts_fit.branch [
    | then-starts_fit v ↦ search (lists_told, sym v.value-is ∙ w.if-pins_ranged.true, sym w.value-is ∙ c.if-lists_fit.true)
    | else-starts_fit v ↦ absurd (cc)
  ]
  | else-pins_ranged w ↦ absurd (cc)
]

pub returns-else-lists_fit : goal.returns-else-lists_fit
returns-else-lists_fit c = rw c.if-lists_fit.false (elim c.if-pins_ranged.branch [
  | then-pins_ranged w ↦ elim c.if-starts_fit.branch [
    | then-starts_fit v ↦ search (lists_fail, sym v.value-is ∙ w.if-pins_ranged.true, sym w.value-is ∙ c.if-lists_fit.false)
    | else-starts_fit v ↦ absurd (cc)
  ]
  | else-pins_ranged w ↦ elim c.if-starts_fit.branch [
    | then-starts_fit v ↦ search (ranges_fail, sym v.value-is ∙ w.if-pins_ranged.false)
    | else-starts_fit v ↦ search starts_fail
  ]
])
