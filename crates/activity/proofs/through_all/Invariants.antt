use Rattle.rules.specs.Tables.{netlist_in}
use Rattle.activity.proofs.Tracing.{PassingDraft}
use Rattle.activity.proofs.through_all.Given as goal

abbrev pub invariant-loop-i : goal.invariant-loop-i
invariant-loop-i l = PassingDraft (netlist_in l.n) l.p l.initial.draft l.initial.lit.word l.draft l.i l.lit
