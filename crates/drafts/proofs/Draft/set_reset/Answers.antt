use Rattle.drafts.proofs.Drafting.{set_adds_none, set_open, set_adds}
use Rattle.drafts.proofs.Draft.set_reset.Goals as goal

pub returns-in_err-set : goal.returns-in_err-set
returns-in_err-set c = rw c.from_residual.ensures (set_adds_none c.args.self.now c.or_not.new.self _ _ _ c.in_err-set.ensures)

pub and_of-requires : goal.and_of-requires
and_of-requires c = set_open c.args.self.now c.or_not.new.self _ _ c.args.r.word _ c.in_ok-set.ensures

pub returns : goal.returns
returns c = set_adds c.args.self.now c.or_not.new.self _ _ _ _ c.in_ok-set.ensures _ _ c.and_of.ensures
