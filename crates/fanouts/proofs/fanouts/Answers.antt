use Rattle.std.proofs.lemmas.Result.{err_from_is_err_and}
use Rattle.fanouts.proofs.Answers.{refused_early, fan_asks, refused_room, accepted}
use borrow.Author.Tests.{not-true, not-false}
use Rattle.fanouts.proofs.fanouts.Goals as goal

pub returns-in_err-test_drivers : goal.returns-in_err-test_drivers
returns-in_err-test_drivers c =
    let p = err_from_is_err_and c.from_residual.result c.from_residual.ensures.1 in
    let q = c.in_err-test_drivers.ensures in
    rw (p.1, p.2) (search refused_early)

pub fan_out-requires : goal.fan_out-requires
fan_out-requires c = let p = fan_asks c.args.drivers.now c.args.pins c.args.starts.now c.args.lists.now _ _ c.zero.ensures c.zero-2.ensures _ c.in_ok-test_drivers.ensures in record { pins_bound = p.0; pins_in_bounds = p.1.0; operands = p.1.1.0; pins_in_bounds_2 = p.1.1.1.0; starts_value = p.1.1.1.1.0; lists_value = p.1.1.1.1.1 }

pub returns-then-not-fan_out : goal.returns-then-not-fan_out
returns-then-not-fan_out c = let q = c.in_ok-test_drivers.ensures in search (refused_room, not-true)

pub returns : goal.returns
returns c = let q = c.in_ok-test_drivers.ensures in search (accepted, not-false)
