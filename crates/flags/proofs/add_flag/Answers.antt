use mathlib.Core.Path.{refl}
use Rattle.flags.proofs.Making.{adds_known, adds_full, adds_new}
use Rattle.flags.proofs.add_flag.Goals as goal

pub returns-then-old-ne0 : goal.returns-then-old-ne0
returns-then-old-ne0 c = search adds_known

pub returns-in_err-push : goal.returns-in_err-push
returns-in_err-push c = rw c.from_residual.ensures (search (adds_full, c.in_err-push.ensures.adds))

pub returns : goal.returns
returns c = adds_new c.args.m c.args.draft.now c.args.q c.args.e c.requires.flagging c.requires.q_lt_m _ c.edge_word-edge.ensures c.if-old-ne0.false _ c.push.ensures.same_words _ c.in_ok-push.ensures.adds _ refl refl
