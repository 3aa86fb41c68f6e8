use Rattle.draws.proofs.Pinning.{draft_blank, draft_full, draft_begun, draft_done}
use Rattle.draws.proofs.make_pins.Goals as goal

pub clock_flags-requires-clause-blank : goal.clock_flags-requires-clause-blank
clock_flags-requires-clause-blank c = let n = c.args.n in draft_blank n.kinds.now n.starts.now n.list.now n.pins.now n.nets.now c.args.rooms c.args.draft.now _ c.requires

pub returns-in_err-clock_flags : goal.returns-in_err-clock_flags
returns-in_err-clock_flags c =
    let n = c.args.n in
    rw c.from_residual.ensures (draft_full n.kinds.now n.starts.now n.list.now n.pins.now n.nets.now c.args.rooms c.args.draft.now _ c.requires _ c.in_err-clock_flags.ensures)

pub visit_pins-requires : goal.visit_pins-requires
visit_pins-requires c = let n = c.args.n in draft_begun n.kinds.now n.starts.now n.list.now n.pins.now n.nets.now c.args.rooms c.args.draft.now _ c.requires _ c.in_ok-clock_flags.ensures

pub returns : goal.returns
returns c =
    let n = c.args.n in
    draft_done n.kinds.now n.starts.now n.list.now n.pins.now n.nets.now c.args.rooms c.args.draft.now _ c.requires _ c.in_ok-clock_flags.ensures _ _ _ c.visit_pins.ensures
