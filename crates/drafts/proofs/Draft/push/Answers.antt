use mathlib.Core.Path.{refl}
use Rattle.drafts.proofs.Draft.push.Goals as goal

pub returns-in_err-made-clause-adds : goal.returns-in_err-made-clause-adds
returns-in_err-made-clause-adds c = rw c.from_residual.ensures
    (record { loans = record { drivers = refl; work = refl; place = refl }; extends = c.in_err-made.ensures _ _ c.requires.open })

pub returns-clause-adds : goal.returns-clause-adds
returns-clause-adds c = record { loans = record { drivers = refl; work = refl; place = refl }; extends = c.in_ok-made.ensures _ _ c.requires.open }
