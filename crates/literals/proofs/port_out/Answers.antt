use mathlib.Core.Path.{refl}
use Rattle.literals.proofs.Settling.{leaves_plain}
use Rattle.literals.proofs.port_out.Goals as goal

pub returns : goal.returns
returns c = leaves_plain _ _ _ c.args.draft.now c.push.new.self _ c.in_ok-lit.ensures.adds c.requires.p_bound _ refl c.put_literal.ensures
