-- Tests and choices: going by a test with its equation, what tests joined by and/or say, and refusals in a row.
use mathlib.Core.Path.{◌≡◌, refl, sym, ◌∙◌, subst}
use mathlib.Core.Bool.{Bool, true, false, ◌&&◌, ◌||◌}
use Prim.Native.Nat.{ℕ, zero, suc, ◌≤◌, min, max}
use native.Mathlib.Omega.{arith}
use lib.Dec.{T}
use borrow.Author.Tests.{eq-eqb, ne_eqb, leb-true, leb-false}
use Rattle.std.specs.Prelude.{if◌then◌else◌, ◌==◌}
use Rattle.laws.specs.Tests.{◌≤?◌, one, same, or_else, refuse}

-- go by a test, with its equation: in place of a case split, which would lose it
pub by_test : {P : Type 0} (b : Bool) → (b ≡ true → P) → (b ≡ false → P) → P
by_test true t f = t refl
by_test false t f = f refl

pub true≢false : {P : Type 0} (b : Bool) → b ≡ true → b ≡ false → P
true≢false b t f = absurd (subst T (sym t ∙ f) tt)

-- a choice, once its test is known, and what both its ways have
module _ {A : Type 0} (b : Bool) (x y : A) where
  pub if_true : b ≡ true → (if b then x else y) ≡ x
  if_true e = rw e

  pub if_false : b ≡ false → (if b then x else y) ≡ y
  if_false e = rw e

  pub if_elim : (P : A → Type 0) → (b ≡ true → P x) → (b ≡ false → P y) → P (if b then x else y)
  if_elim P p q = by_test b (λ t. rw t (p t)) (λ f. rw f (q f))

-- one way of a choice may be changed where it is taken
pub if_first : {A : Type 0} (b : Bool) (x x' y : A) → (b ≡ true → x ≡ x') → (if b then x else y) ≡ (if b then x' else y)
if_first true x x' y f = f refl
if_first false x x' y f = refl

pub if_second : {A : Type 0} (b : Bool) (x y y' : A) → (b ≡ false → y ≡ y') → (if b then x else y) ≡ (if b then x else y')
if_second true x y y' f = refl
if_second false x y y' f = f refl

-- tests joined: what holds of each
pub and_l : (x y : Bool) → (x && y) ≡ true → x ≡ true
and_l true y h = refl
and_l false y h = h

pub and_r : (x y : Bool) → (x && y) ≡ true → y ≡ true
and_r true y h = h
and_r false y h = true≢false false h refl

pub and_both : {P : Type 0} (x y : Bool) → (x && y) ≡ true → (x ≡ true → y ≡ true → P) → P
and_both x y h k = k (and_l x y h) (and_r x y h)

pub both_true : (x y : Bool) → x ≡ true → y ≡ true → (x && y) ≡ true
both_true x y h k = rw (h, k)

pub and-false : (b : Bool) → (b && false) ≡ false
and-false true = refl
and-false false = refl

pub and_fails : {P : Type 0} (x y : Bool) → (x && y) ≡ false → (x ≡ false → P) → (x ≡ true → y ≡ false → P) → P
and_fails true y h p q = q refl h
and_fails false y h p q = p refl

pub or_cases : {P : Type 0} (x y : Bool) → (x || y) ≡ true → (x ≡ true → P) → (y ≡ true → P) → P
or_cases true y h p q = p refl
or_cases false y h p q = q h

pub or_left : (x y : Bool) → x ≡ true → (x || y) ≡ true
or_left x y h = rw h

pub or_right : (x y : Bool) → y ≡ true → (x || y) ≡ true
or_right true y h = refl
or_right false y h = h

pub or_first : (a b : Bool) → (a || b) ≡ false → a ≡ false
or_first true b e = e
or_first false b e = refl

pub or_second : (a b : Bool) → (a || b) ≡ false → b ≡ false
or_second true b e = true≢false true refl e
or_second false b e = e

pub or_true : (b : Bool) → (b || true) ≡ true
or_true true = refl
or_true false = refl

pub or_false : (b : Bool) → (b || false) ≡ b
or_false true = refl
or_false false = refl

-- two bits that hold together are the same
pub bits_same : (x y : Bool) → (x ≡ true → y ≡ true) → (y ≡ true → x ≡ true) → x ≡ y
bits_same true y f g = sym (f refl)
bits_same false true f g = g refl
bits_same false false f g = refl

pub same_true : (x y : Bool) → same x y ≡ true → x ≡ y
same_true true y h = sym h
same_true false true h = true≢false false h refl
same_true false false h = refl

pub same_refl : (x : Bool) → same x x ≡ true
same_refl true = refl
same_refl false = refl

-- a bit as a number: a mark in a table is such a one
pub one_le : (b : Bool) → one b ≤ 1
one_le true = omega arith
one_le false = omega arith

pub one_true : (b : Bool) → b ≡ true → one b ≡ 1
one_true b e = rw e

pub one_zero : (b : Bool) → one b ≡ 0 → b ≡ false
one_zero true e = absurd (omega arith)
one_zero false e = refl

pub one_set : (b : Bool) → (one b ≡ 0 → ⊥) → b ≡ true
one_set true e = refl
one_set false e = absurd (e refl)

pub one_eq : (x y : ℕ) → x ≡ y → one (x == y) ≡ 1
one_eq x y h = rw (eq-eqb x y h)

pub one_ne : (x y : ℕ) → (x ≡ y → ⊥) → one (x == y) ≡ 0
one_ne x y h = rw (ne_eqb x y h)

-- refusals in a row: the number is 0 exactly where each test passes, else it is that of the first that does not
pub or_zero : (a b : ℕ) → or_else a b ≡ 0 → (a ≡ 0) × (b ≡ 0)
or_zero zero b h = (refl, h)
or_zero (suc a) b h = absurd (omega arith)

pub both_zero : (a b : ℕ) → a ≡ 0 → b ≡ 0 → or_else a b ≡ 0
both_zero a b e f = rw (e, f)

pub first_refused : (a b r : ℕ) → a ≡ r → (r ≡ 0 → ⊥) → or_else a b ≡ r
first_refused zero b r e n = absurd (n (sym e))
first_refused (suc a) b r e n = e

pub next-refused : (a b : ℕ) → a ≡ 0 → or_else a b ≡ b
next-refused a b e = rw e

pub refused : (k : ℕ) (b : Bool) → b ≡ false → refuse k b ≡ k
refused k b e = rw e

pub passed : (k : ℕ) (b : Bool) → b ≡ true → refuse k b ≡ 0
passed k b e = rw e

pub not_refused : (k : ℕ) (b : Bool) (r : ℕ) → or_else (refuse (suc k) b) r ≡ 0 → (b ≡ true) × (r ≡ 0)
not_refused k true r h = (refl, h)
not_refused k false r h = absurd (omega (arith, h))

pub last_refused : (k : ℕ) (b : Bool) → refuse (suc k) b ≡ 0 → b ≡ true
last_refused k true h = refl
last_refused k false h = absurd (omega (arith, h))

-- the smaller and the larger of two numbers, by which it is
pub min-max : (P : ℕ → ℕ → Type 0) (a b : ℕ) → (a ≤ b → P a b) → (b ≤ a → P b a) → P (min a b) (max a b)
min-max P a b p q = by_test (a ≤? b)
    (λ t. let e : min a b ≡ a = omega (arith, leb-true a b t) in let e' : max a b ≡ b = omega (arith, leb-true a b t) in rw (e, e') (p (leb-true a b t)))
    (λ f. let e : min a b ≡ b = omega (arith, leb-false a b f) in let e' : max a b ≡ a = omega (arith, leb-false a b f) in rw (e, e') (q (omega (arith, leb-false a b f))))
