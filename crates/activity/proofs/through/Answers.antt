use Rattle.activity.proofs.Tracing.{enable_place, enable_told}
use Rattle.activity.proofs.through.Goals as goal

pub returns : goal.returns
returns c = record {
  loans = c.and_of.ensures.loans;
  extends = enable_told _ _ _ _ _ _ _ _ c.requires.going c.requires.clocked c.requires.i_in_bounds c.trace_clock_pin-walk.ensures c.args.so _ _ _ c.and_of.ensures.extends;
}

pub bounds-draft-place : goal.bounds-draft-place
bounds-draft-place c = enable_place _ _ _ _ _ _ _ _ c.requires.going c.requires.clocked c.requires.i_in_bounds c.trace_clock_pin-walk.ensures
