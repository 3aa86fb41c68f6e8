use borrow.Author.Tests.{eq-eqb, ne_eqb}
use Rattle.texts.proofs.Numbers.{gather_begins, gather_goes_on, gather_stops, gather_ends}
use Rattle.texts.proofs.take_numbers.Goals as goal
use Rattle.texts.proofs.take_numbers.Goals.{then-count-eq0, else-count-eq0}

pub loop-a-init : goal.loop-a-init
loop-a-init c = search gather_begins

pub returns-in_default : goal.returns-in_default
returns-in_default c = gather_stops _ _ _ _ _ _ _ _ c.loop-a.invariant _ c.loop-a-test.true _ c.in_default.is c.field_at-field.ensures

pub loop-a-preserved : goal.loop-a-preserved
loop-a-preserved c = gather_goes_on _ _ _ _ _ _ _ _ c.loop-a.invariant _ c.loop-a-test.true _ _ c.in-Some.is c.field_at-field.ensures _ _ c.put_word.ensures
    (elim c.if-count-eq0.branch [
      | then-count-eq0 w ↦ rw (eq-eqb c.loop-a.count 0 w.if-count-eq0.true) w.first-is
      | else-count-eq0 w ↦ rw (ne_eqb c.loop-a.count 0 w.if-count-eq0.false) w.first-is
    ])

pub returns : goal.returns
returns c = search gather_ends
