use mathlib.Core.Path.{sym, ◌∙◌}
use Rattle.roles.proofs.Entries.{searching_begins, none_left, entry_skipped, entry_found, entry_passed, end_behind, end_within, own_held}
use Rattle.roles.proofs.cell_entry.Goals as goal

pub slice_bounds-own-count : goal.slice_bounds-own-count
slice_bounds-own-count c = search end_behind

pub slice_bounds-own-start : goal.slice_bounds-own-start
slice_bounds-own-start c = search end_behind

pub slice_bounds-own-end : goal.slice_bounds-own-end
slice_bounds-own-end c = search end_within

pub loop-p-init : goal.loop-p-init
loop-p-init c = search searching_begins

pub has_name-hit-requires : goal.has_name-hit-requires
has_name-hit-requires c = search own_held

pub loop-p-preserved-then-not-hit : goal.loop-p-preserved-then-not-hit
loop-p-preserved-then-not-hit c = entry_skipped _ _ _ _ _ _ _ c.loop-p.invariant c.loop-p-test.true (sym c.has_name-hit.ensures ∙ c.if-not-hit.true)

pub returns-then-left-eq0 : goal.returns-then-left-eq0
returns-then-left-eq0 c = entry_found _ _ _ _ _ _ _ c.loop-p.invariant c.loop-p-test.true (sym c.has_name-hit.ensures ∙ c.if-not-hit.false) c.if-left-eq0.true

pub loop-p-preserved : goal.loop-p-preserved
loop-p-preserved c = entry_passed _ _ _ _ _ _ _ c.loop-p.invariant c.loop-p-test.true (sym c.has_name-hit.ensures ∙ c.if-not-hit.false) c.if-left-eq0.false

pub returns : goal.returns
returns c = search none_left
