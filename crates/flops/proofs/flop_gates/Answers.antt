use Rattle.activity.proofs.Composing.{adds_open}
use Rattle.flops.proofs.Flopping.{stops_1, stops_2, stops_3, stops_4, four_made}
use Rattle.flops.proofs.flop_gates.Goals as goal

pub returns-in_err-set_next : goal.returns-in_err-set_next
returns-in_err-set_next c = let g = c.args in rw c.from_residual.ensures (stops_1 g.draft.now g.d.word g.a.word g.s.word g.r.word _ c.in_err-set_next.ensures)

pub or_not-requires-2 : goal.or_not-requires-2
or_not-requires-2 c = adds_open _ _ _ _ c.in_ok-set_next.ensures

pub returns-in_err-set_enable : goal.returns-in_err-set_enable
returns-in_err-set_enable c = let g = c.args in rw c.from_residual-in_err-set_enable.ensures (stops_2 g.draft.now g.d.word g.a.word g.s.word g.r.word _ _ c.in_ok-set_next.ensures _ c.in_err-set_enable.ensures)

pub and_of-requires : goal.and_of-requires
and_of-requires c = adds_open _ _ _ _ c.in_ok-set_enable.ensures

pub returns-in_err-next : goal.returns-in_err-next
returns-in_err-next c = let g = c.args in rw c.from_residual-in_err-next.ensures (stops_3 g.draft.now g.d.word g.a.word g.s.word g.r.word _ _ c.in_ok-set_next.ensures _ _ c.in_ok-set_enable.ensures _ c.in_err-next.ensures)

pub or_not-requires-3 : goal.or_not-requires-3
or_not-requires-3 c = adds_open _ _ _ _ c.in_ok-next.ensures

pub returns-in_err-enable : goal.returns-in_err-enable
returns-in_err-enable c = let g = c.args in rw c.from_residual-in_err-enable.ensures (stops_4 g.draft.now g.d.word g.a.word g.s.word g.r.word _ _ c.in_ok-set_next.ensures _ _ c.in_ok-set_enable.ensures _ _ c.in_ok-next.ensures _ c.in_err-enable.ensures)

pub returns : goal.returns
returns c = let g = c.args in four_made g.draft.now g.d.word g.a.word g.s.word g.r.word _ _ c.in_ok-set_next.ensures _ _ c.in_ok-set_enable.ensures _ _ c.in_ok-next.ensures _ _ c.in_ok-enable.ensures
