use mathlib.Core.Path.{refl}
use Rattle.literals.proofs.Settling.{leaves_turned}
use Rattle.literals.proofs.and_left.Goals as goal

pub returns : goal.returns
returns c = leaves_turned _ _ _ c.args.draft.now c.and_of.new.self _ c.in_ok-lit.ensures c.requires.p_bound _ refl _ _ c.turned-out.ensures c.put_literal.ensures
