use borrow.Author.Rules.{rules}
use borrow.Author.Tests.{tests}
use Prim.Native.Nat.{ℕ}
use mathlib.Core.Path.{◌≡◌}
use mathlib.Core.Bool.{true, false}
use Rattle.std.specs.Prelude.{◌==◌}
use Rattle.std.proofs.lemmas.Iterator.{cases_from_all, YieldsList-from_slice}
use Rattle.laws.proofs.Indices.{every-from_cases}
use Rattle.words.specs.Tables.{all_zero}
use Rattle.words.proofs.all_zero.Goals as goal

pub returns : goal.returns
unfolding all_zero
returns c = every-from_cases (λ (x : ℕ). x == 0) 0 c.args.s.now _
    (cases_from_all _ _ _ (λ x. (x == 0) ≡ true) (λ x. (x == 0) ≡ false) c.all.ensures.ran (YieldsList-from_slice c.args.s.now cc) (λ x q k. search (rules, tests)) (λ x q k. search (rules, tests)))
