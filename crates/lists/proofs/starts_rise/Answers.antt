use Rattle.std.proofs.Common.{rules, tests, refl}
use lib.ListN.{get_or}
use Prim.Native.Nat.{◌+◌}
use Rattle.laws.specs.Tests.{◌≤?◌}
use Rattle.pins.proofs.Each.{all_below}
use Rattle.lists.proofs.starts_rise.Goals as goal

pub returns : goal.returns
returns c = let a = c.args in all_below (λ k. get_or a.starts.now k 0 ≤? get_or a.starts.now (k + 1) 0) a.cells _ _ _ c.all.ensures.ran refl (λ x b q k. search (rules, tests))
