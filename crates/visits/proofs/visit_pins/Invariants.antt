use Rattle.rules.specs.Tables.{netlist_in}
use Rattle.visits.proofs.Runs.{VisitingSince}
use Rattle.visits.proofs.visit_pins.Given as goal

abbrev pub invariant-loop-i : goal.invariant-loop-i
invariant-loop-i l = VisitingSince (netlist_in l.n) l.rooms l.initial.draft l.draft l.outputs l.i
