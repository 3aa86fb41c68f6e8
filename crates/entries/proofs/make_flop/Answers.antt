use mathlib.Core.Path.{refl}
use Rattle.std.specs.Prelude.{None}
use Rattle.rules.proofs.Tables.{clash}
use Rattle.entries.proofs.Making.{adds_flop_kept}
use Rattle.entries.proofs.make_flop.Goals as goal

pub returns-in_err-draft : goal.returns-in_err-draft
returns-in_err-draft c = rw c.from_residual-in_err-draft.ensures
    (adds_flop_kept _ _ _ _ c.args.draft.now c.push.new.self c.push.ensures.same_words _ c.in_ok-push.ensures.adds _ _ None (λ e. refl) refl c.number_cell-count.ensures.work_after _ c.number_cell-count.ensures.value c.in_err-draft.ensures)

pub returns : goal.returns
returns c = adds_flop_kept _ _ _ _ c.args.draft.now c.push.new.self c.push.ensures.same_words _ c.in_ok-push.ensures.adds _ _ _ (λ e. clash (cc)) refl c.number_cell-count.ensures.work_after _ c.number_cell-count.ensures.value c.in_ok-draft.ensures
