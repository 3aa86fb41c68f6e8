use mathlib.Core.Path.{sym, subst}
use mathlib.Core.List.{List}
use Prim.Native.Nat.{ℕ}
use Rattle.picks.specs.Tables.{Pushing}
use Rattle.picks.proofs.Pushes.{hand_no, hand_yes}
use Rattle.picks.proofs.hand_one.Goals as goal

pub returns-then-stop-ne0 : goal.returns-then-stop-ne0
returns-then-stop-ne0 c = search hand_no

pub returns : goal.returns
returns c = subst (λ (ws : List ℕ). Pushing c.args.handed.now c.args.n ws c.push.new.table c.push.result)
    (sym (hand_yes c.args.m c.args.work.now c.args.p _ c.word-stop.ensures c.if-stop-ne0.false)) c.push.ensures
