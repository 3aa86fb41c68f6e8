use Rattle.drafts.proofs.Drafting.{or_adds}
use Rattle.drafts.proofs.Draft.or_not.Goals as goal

pub returns : goal.returns
returns c = or_adds c.args.self.now c.and_of.new.self _ _ _ c.opposite-other.ensures _ _ c.in_ok-lit.ensures c.opposite-turned.ensures
