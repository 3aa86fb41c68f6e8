-- What an answer says of its number, and tests in a row: a refusal of the first is that of all.
use mathlib.Core.Path.{◌≡◌, refl, ap}
use mathlib.Core.List.{List}
use Prim.Native.Nat.{ℕ, zero, suc}
use lib.ListN.{get_or}
use Rattle.std.specs.Prelude.{Result, Ok, Err}
use Rattle.laws.specs.Tests.{or_else}
use Rattle.laws.specs.Words.{zeros}
use Rattle.rules.specs.declared.Refusal.{Refusal}
use Rattle.rules.specs.declared.Refusal.TheVariants.{Index}
use Rattle.rules.specs.Answers.{refusals, answer_of, done_of}
use Rattle.rules.specs.Tables.{held}

-- ---- of the number 0, and of another
pub number_zero : {T : Type 0} (k : ℕ) (v w : T) → Ok v ≡ answer_of k w → k ≡ 0
number_zero zero v w e = refl
number_zero (suc k) v w e = cc

pub number_more : {P : Type 0} (k : ℕ) (e : Refusal) → Err e ≡ done_of k → ((j : ℕ) → k ≡ suc j → e ≡ get_or refusals j Index → P) → P
number_more zero e q h = cc
number_more (suc k) e q h = h k refl cc

pub answered : {T : Type 0} (k : ℕ) (v w : T) → k ≡ 0 → v ≡ w → Ok v ≡ answer_of k w
answered zero v w z e = ap Ok e
answered (suc k) v w z e = cc

-- the same refusal, where another value is given
pub refused_too : {T : Type 0} (k : ℕ) (v : T) (e : Refusal) → Err e ≡ done_of k → Err e ≡ answer_of k v
refused_too zero v e q = cc
refused_too (suc k) v e q = cc

-- a refused call's tables are 0
pub held_none : (k : ℕ) (ws : List ℕ) (room : ℕ) (e : Refusal) → Err e ≡ done_of k → zeros room ≡ held k ws room
held_none zero ws room e q = cc
held_none (suc k) ws room e q = refl

-- ---- two tests in a row
pub or_refused : {T : Type 0} (a b : ℕ) (v : T) (e : Refusal) → Err e ≡ done_of a → Err e ≡ answer_of (or_else a b) v
or_refused zero b v e q = cc
or_refused (suc a) b v e q = cc

pub or_accepted : {T : Type 0} (a b : ℕ) (v : T) (r : Result T Refusal) (u : Unit {0}) → Ok u ≡ done_of a → r ≡ answer_of b v → r ≡ answer_of (or_else a b) v
or_accepted zero b v r u q s = s
or_accepted (suc a) b v r u q s = cc
