use Rattle.std.proofs.lemmas.Result.{err_from_is_err_and}
use Rattle.traverse.proofs.Answers.{refused_early, stops_asks, refused_repeat, run_asks, count_fits, refused_room, listed}
use borrow.Author.Tests.{not-false}
use Rattle.traverse.proofs.topo_traverse_generic.Goals as goal

pub returns-in_err-test_early : goal.returns-in_err-test_early
returns-in_err-test_early c =
    let p = err_from_is_err_and c.from_residual.result c.from_residual.ensures.1 in
    let q = c.in_err-test_early.ensures in
    rw (p.1, p.2) (search refused_early)

pub set_stops-requires : goal.set_stops-requires
set_stops-requires c = let p = stops_asks c.args.drivers.now c.args.pins c.args.given c.args.roots.now c.args.handed.now c.args.order.now c.args.work.now _ _ c.zero.ensures c.zero-2.ensures _ c.in_ok-test_early.ensures in record { all_below = p.0; m_in_bounds = p.1.0; stops = p.1.1 }

pub returns-then-not-set_stops : goal.returns-then-not-set_stops
returns-then-not-set_stops c = refused_repeat c.args.drivers.now c.args.pins c.args.given c.args.roots.now c.args.handed.now c.args.order.now c.args.work.now _ _ c.zero.ensures c.zero-2.ensures _ c.in_ok-test_early.ensures _ _ c.set_stops.ensures _ c.if-not-set_stops.true c.zero-then-not-set_stops.ensures

pub run-listed-requires : goal.run-listed-requires
run-listed-requires c = let p = run_asks c.args.drivers.now c.args.pins c.args.given c.args.roots.now c.args.handed.now c.args.order.now c.args.work.now _ _ c.zero.ensures c.zero-2.ensures _ c.in_ok-test_early.ensures _ _ c.set_stops.ensures c.if-not-set_stops.false in record { going = p.0; m_bound = p.1.0; all_below = p.1.1 }

pub returns-then-order-listed : goal.returns-then-order-listed
returns-then-order-listed c = refused_room c.args.drivers.now c.args.pins c.args.given c.args.roots.now c.args.handed.now c.args.order.now c.args.work.now _ _ c.zero.ensures c.zero-2.ensures _ c.in_ok-test_early.ensures _ _ c.set_stops.ensures c.if-not-set_stops.false _ _ _ c.run-listed.ensures c.zero-then-order-listed.ensures c.if-order-listed.true

pub overflow_cast-result : goal.overflow_cast-result
overflow_cast-result c = count_fits c.args.drivers.now c.args.pins c.args.given c.args.roots.now c.args.handed.now c.args.order.now c.args.work.now _ _ c.zero.ensures c.zero-2.ensures _ c.in_ok-test_early.ensures _ _ c.set_stops.ensures c.if-not-set_stops.false _ _ c.run-listed.ensures

pub returns : goal.returns
returns c = let q = c.in_ok-test_early.ensures in search (listed, not-false)
