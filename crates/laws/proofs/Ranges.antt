-- The numbers below a bound: what stands in `upto n`, where, and tests over all of them.
use mathlib.Core.Path.{◌≡◌, refl, ◌∙◌, ap}
use mathlib.Core.Bool.{Bool, true, false}
use mathlib.Core.List.{[], ◌∷◌, ◌++◌, map}
use Prim.Native.Nat.{ℕ, zero, suc, ◌≤◌, ◌<◌}
use native.Mathlib.Omega.{arith}
use lib.ListN.{length, get_or, length-append, length-map, get_or-append, get_or-eq_default}
use lib.Seq.{get_or-append_seam}
use borrow.Author.Tests.{ltb-true, ltb-false, eqb-true, eqb-false}
use Rattle.std.specs.Prelude.{◌==◌}
use Rattle.laws.specs.Tests.{◌<?◌}
use Rattle.laws.specs.Lists.{count, every, upto}
use Rattle.laws.proofs.Tests.{by_test, true≢false, one_eq, one_ne}
use Rattle.laws.proofs.Bags.{count-append, every_true, every_false, every_all, every_append}
use Rattle.laws.proofs.Indices.{map_at}

-- each number below the bound stands there once, no other
pub upto_out : (n e : ℕ) → n ≤ e → count e (upto n) ≡ 0
upto_out zero e h = refl
upto_out (suc n) e h = omega (arith, count-append e (upto n) (n ∷ []), upto_out n e (omega arith), one_ne e n (λ q. omega arith))

pub upto_in : (n e : ℕ) → e < n → count e (upto n) ≡ 1
upto_in zero e h = absurd (omega arith)
upto_in (suc n) e h = by_test (e == n)
    (λ t. omega (arith, count-append e (upto n) (n ∷ []), upto_out n e (omega (arith, eqb-true e n t)), one_eq e n (eqb-true e n t)))
    (λ f. omega (arith, count-append e (upto n) (n ∷ []), upto_in n e (omega (arith, eqb-false e n f)), one_ne e n (eqb-false e n f)))

pub in_upto : (n e : ℕ) → 0 < count e (upto n) → e < n
in_upto n e m = by_test (e <? n) (λ t. ltb-true e n t) (λ f. absurd (omega (arith, m, upto_out n e (ltb-false e n f))))

pub upto-once : (n e : ℕ) → count e (upto n) ≤ 1
upto-once n e = by_test (e <? n) (λ t. omega (arith, upto_in n e (ltb-true e n t))) (λ f. omega (arith, upto_out n e (ltb-false e n f)))

-- by index
pub length-upto : (n : ℕ) → length (upto n) ≡ n
length-upto zero = refl
length-upto (suc n) = omega (arith, length-append (upto n) (n ∷ []), length-upto n)

pub at_upto : (n i : ℕ) → i < n → get_or (upto n) i 0 ≡ i
at_upto zero i h = absurd (omega arith)
at_upto (suc n) i h = by_test (i <? n)
    (λ t. get_or-append (upto n) (n ∷ []) 0 i (omega (arith, length-upto n, ltb-true i n t)) ∙ at_upto n i (ltb-true i n t))
    (λ f. let e : i ≡ length (upto n) = omega (arith, length-upto n, ltb-false i n f) in
    ap (λ (k : ℕ). get_or (upto n ++ (n ∷ [])) k 0) e ∙ get_or-append_seam (upto n) n [] 0 ∙ omega (arith, length-upto n))

pub map-upto : {A : Type 0} (f : ℕ → A) (d : A) (n i : ℕ) → i < n → get_or (map f (upto n)) i d ≡ f i
map-upto f d n i h = map_at f (upto n) i 0 d (omega (arith, length-upto n)) ∙ ap f (at_upto n i h)

pub map_past : {A : Type 0} (f : ℕ → A) (d : A) (n i : ℕ) → n ≤ i → get_or (map f (upto n)) i d ≡ d
map_past f d n i h = get_or-eq_default (map f (upto n)) d (omega (arith, length-map (upto n) f, length-upto n))

pub length-map-upto : {A : Type 0} (f : ℕ → A) (n : ℕ) → length (map f (upto n)) ≡ n
length-map-upto f n = length-map (upto n) f ∙ length-upto n

-- a test over all of them is one for each
pub every_upto : (f : ℕ → Bool) (n : ℕ) → ((x : ℕ) → x < n → f x ≡ true) → every f (upto n) ≡ true
every_upto f n h = every_all f (upto n) (λ x m. h x (in_upto n x m))

pub of_upto : (f : ℕ → Bool) (n x : ℕ) → every f (upto n) ≡ true → x < n → f x ≡ true
of_upto f n x h l = every_true f x (upto n) h (omega (arith, upto_in n x l))

pub not_upto : {P : Type 0} (f : ℕ → Bool) (n : ℕ) → every f (upto n) ≡ false → ((x : ℕ) → x < n → f x ≡ false → P) → P
not_upto f n h k = every_false f (upto n) h (λ x m e. k x (in_upto n x m) e)

pub upto_fails : (f : ℕ → Bool) (n x : ℕ) → x < n → f x ≡ false → every f (upto n) ≡ false
upto_fails f n x l e = by_test (every f (upto n)) (λ t. true≢false (f x) (of_upto f n x t l) e) (λ g. g)

pub upto-more : (f : ℕ → Bool) (n : ℕ) → every f (upto n) ≡ true → f n ≡ true → every f (upto (suc n)) ≡ true
upto-more f n h e = every_append f (upto n) (n ∷ []) ∙ rw (h, e)
