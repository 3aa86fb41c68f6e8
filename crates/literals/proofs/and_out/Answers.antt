use Rattle.literals.proofs.Settling.{leaves_and}
use Rattle.literals.proofs.and_out.Goals as goal

pub returns : goal.returns
returns c = let a = c.args in leaves_and a.m a.p a.x a.y a.z a.a a.b a.draft.now c.and_left.new.draft _ _ c.words-work.ensures _ _ c.operand-one.ensures c.operand-two.ensures c.and_left.ensures
