-- A refusal's number is its place in the order of refusals, and tests in a row give none past 15.
use mathlib.Core.Path.{◌≡◌, refl}
use mathlib.Core.Bool.{Bool, true, false}
use Prim.Native.Nat.{ℕ, zero, suc, ◌<◌, ◌≤◌}
use native.Mathlib.Omega.{arith}
use lib.ListN.{get_or}
use Rattle.laws.specs.Tests.{or_else, refuse}
use Rattle.rules.specs.declared.Refusal.TheVariants.{Index}
use Rattle.rules.specs.Answers.{number_of, refusals}

pub number_of_lem : (k : ℕ) → k < 15 → number_of (get_or refusals k Index) ≡ suc k
number_of_lem zero l = refl
number_of_lem (suc zero) l = refl
number_of_lem (suc (suc zero)) l = refl
number_of_lem (suc (suc (suc zero))) l = refl
number_of_lem (suc (suc (suc (suc zero)))) l = refl
number_of_lem (suc (suc (suc (suc (suc zero))))) l = refl
number_of_lem (suc (suc (suc (suc (suc (suc zero)))))) l = refl
number_of_lem (suc (suc (suc (suc (suc (suc (suc zero))))))) l = refl
number_of_lem (suc (suc (suc (suc (suc (suc (suc (suc zero)))))))) l = refl
number_of_lem (suc (suc (suc (suc (suc (suc (suc (suc (suc zero))))))))) l = refl
number_of_lem (suc (suc (suc (suc (suc (suc (suc (suc (suc (suc zero)))))))))) l = refl
number_of_lem (suc (suc (suc (suc (suc (suc (suc (suc (suc (suc (suc zero))))))))))) l = refl
number_of_lem (suc (suc (suc (suc (suc (suc (suc (suc (suc (suc (suc (suc zero)))))))))))) l = refl
number_of_lem (suc (suc (suc (suc (suc (suc (suc (suc (suc (suc (suc (suc (suc zero))))))))))))) l = refl
number_of_lem (suc (suc (suc (suc (suc (suc (suc (suc (suc (suc (suc (suc (suc (suc zero)))))))))))))) l = refl
number_of_lem (suc (suc (suc (suc (suc (suc (suc (suc (suc (suc (suc (suc (suc (suc (suc k))))))))))))))) l = absurd (omega arith)

pub or_few : (m a b : ℕ) → a ≤ m → b ≤ m → or_else a b ≤ m
or_few m zero b p q = q
or_few m (suc a) b p q = p

pub refuse_few : (m k : ℕ) (b : Bool) → k ≤ m → refuse k b ≤ m
refuse_few m k true p = omega arith
refuse_few m k false p = p
