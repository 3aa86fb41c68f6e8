use native.Mathlib.Omega.{arith}
use Rattle.activity.proofs.Tracing.{flag_place, flag_few, flag_told}
use Rattle.activity.proofs.flag_lit.Goals as goal

pub bounds-draft-place : goal.bounds-draft-place
bounds-draft-place c = search flag_place

pub overflow_mul-word : goal.overflow_mul-word
overflow_mul-word c = let a = c.args in omega (arith, flag_few a.m a.q a.e _ a.draft.now.work.now c.edge_word-edge.ensures c.requires.e_bound)

pub returns : goal.returns
returns c = search flag_told
