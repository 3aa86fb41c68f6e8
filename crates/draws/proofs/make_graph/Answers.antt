use mathlib.Core.Path.{refl}
use borrow.Author.Rules.{rules}
use Rattle.draws.proofs.Graphing.{draft_full, draft_going, draft_drawn}
use Rattle.draws.proofs.make_graph.Goals as goal

pub returns-in_err-make_pins : goal.returns-in_err-make_pins
returns-in_err-make_pins c =
    let n = c.args.n in
    rw c.from_residual.ensures (draft_full n.kinds.now n.starts.now n.list.now n.pins.now n.nets.now c.args.rooms _ _ _ _ _ _ c.requires c.in_err-make_pins.ensures _ _ (search rules) (search rules))

pub record_ends-requires-clause-going : goal.record_ends-requires-clause-going
record_ends-requires-clause-going c =
    let n = c.args.n in
    draft_going n.kinds.now n.starts.now n.list.now n.pins.now n.nets.now c.args.rooms _ _ _ _ _ _ c.requires c.in_ok-make_pins.ensures refl

pub returns-in_err-record_ends : goal.returns-in_err-record_ends
returns-in_err-record_ends c =
    let n = c.args.n in
    rw c.from_residual-in_err-record_ends.ensures
    (draft_drawn n.kinds.now n.starts.now n.list.now n.pins.now n.nets.now c.args.rooms _ _ _ _ _ _ c.requires c.in_ok-make_pins.ensures refl _ _ _ _ c.in_err-record_ends.ensures _ _ (search rules) (search rules))

pub returns : goal.returns
returns c =
    let n = c.args.n in
    draft_drawn n.kinds.now n.starts.now n.list.now n.pins.now n.nets.now c.args.rooms _ _ _ _ _ _ c.requires c.in_ok-make_pins.ensures refl _ _ _ _ c.in_ok-record_ends.ensures _ _ (search rules) (search rules)
