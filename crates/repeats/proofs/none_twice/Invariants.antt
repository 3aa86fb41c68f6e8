use Rattle.repeats.proofs.Stamps.{Stamping}
use Rattle.repeats.proofs.none_twice.Given as goal

abbrev pub invariant-loop-entry : goal.invariant-loop-entry
invariant-loop-entry l = Stamping l.list l.pins l.initial.work l.work l.base l.entry-index
