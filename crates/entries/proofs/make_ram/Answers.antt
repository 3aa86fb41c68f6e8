use mathlib.Core.Path.{refl}
use Rattle.std.specs.Prelude.{None}
use Rattle.rules.proofs.Tables.{clash}
use Rattle.entries.proofs.Making.{adds_ram_kept}
use Rattle.entries.proofs.make_ram.Goals as goal

pub returns-in_err-draft : goal.returns-in_err-draft
returns-in_err-draft c = rw c.from_residual-in_err-draft.ensures
    (adds_ram_kept _ _ _ _ c.args.draft.now c.push.new.self c.push.ensures.same_words _ _ c.in_ok-lit.ensures.adds _ _ None _ (λ e. refl) refl c.put_literal.ensures c.number_cell-count.ensures.work_after _ c.number_cell-count.ensures.value c.in_err-draft.ensures)

pub returns : goal.returns
returns c = adds_ram_kept _ _ _ _ c.args.draft.now c.push.new.self c.push.ensures.same_words _ _ c.in_ok-lit.ensures.adds _ _ _ _ (λ e. clash (cc)) refl c.put_literal.ensures c.number_cell-count.ensures.work_after _ c.number_cell-count.ensures.value c.in_ok-draft.ensures
