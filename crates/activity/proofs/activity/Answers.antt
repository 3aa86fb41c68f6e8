use Rattle.activity.proofs.Tracing.{end_known, gates_told, activity_told}
use borrow.Author.Rules.{rules}
use Rattle.activity.proofs.activity.Goals as goal

pub end_lit-lit-requires : goal.end_lit-lit-requires
end_lit-lit-requires c = record { m_in_bounds = search rules; end_known = end_known _ _ _ _ _ _ _ c.requires.going c.requires.clocked c.trace_clock_pin-walk.ensures }

pub through_all-requires-clause-gates_value : goal.through_all-requires-clause-gates_value
through_all-requires-clause-gates_value c = record { is = search (gates_told, c.requires.going, c.requires.clocked) }

pub returns : goal.returns
returns c = record {
  loans = c.through_all.ensures.loans;
  extends = activity_told _ _ _ _ _ _ _ c.requires.going c.requires.clocked c.trace_clock_pin-walk.ensures _ c.end_lit-lit.ensures _ _ _ c.through_all.ensures.extends;
}
