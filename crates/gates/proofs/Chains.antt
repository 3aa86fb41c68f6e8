-- The chain of a bucket: what stands on it, and that a pair is found on it exactly where it is known.
use mathlib.Core.Path.{◌≡◌, refl, sym, ap, subst}
use mathlib.Core.Bool.{Bool, true, false}
use mathlib.Core.List.{List, [], ◌∷◌}
use Prim.Native.Nat.{ℕ, zero, suc, ◌≤◌, ◌<◌}
use native.Mathlib.Omega.{arith}
use lib.ListN.{length}
use borrow.Author.Tests.{eq-eqb, eqb-true, eqb-false}
use Rattle.std.specs.Prelude.{if◌then◌else◌, ◌==◌}
use Rattle.laws.proofs.Tests.{by_test, true≢false, and_l, and_r}
use Rattle.rules.specs.declared.Driver.{Driver}
use Rattle.rules.specs.declared.Driver.TheVariants.{And, Port, Flag, Dff, Ram, Constant}
use Rattle.rules.specs.Graph.{driver_at, first_pin, is_pair}
use Rattle.rules.specs.Build.{is_gate}
use Rattle.gates.specs.Step.{bucket_of, in_bucket, top_below}

module _ (ds : List Driver) (rows h : ℕ) where
  pub top_less : (k : ℕ) → 0 < k → top_below ds rows k h < k
  top_less zero l = absurd (omega arith)
  top_less (suc zero) l = by_test (in_bucket rows h (driver_at ds 0)) (λ t. rw t (omega arith)) (λ f. rw f (omega arith))
  top_less (suc (suc k)) l = by_test (in_bucket rows h (driver_at ds (suc k)))
      (λ t. rw t (omega arith))
      (λ f. let i = top_less (suc k) (omega arith) in rw f (omega (arith, i)))

  pub top_in : (k : ℕ) → (top_below ds rows k h ≡ 0 → ⊥) → in_bucket rows h (driver_at ds (top_below ds rows k h)) ≡ true
  top_in zero n = absurd (n refl)
  top_in (suc k) n = by_test (in_bucket rows h (driver_at ds k))
      (λ t. rw t t)
      (λ f. rw f (top_in k (λ z. n (rw f z))))

  pub top_none : (k u : ℕ) → top_below ds rows k h < u → u < k → in_bucket rows h (driver_at ds u) ≡ false
  top_none zero u l m = absurd (omega (arith, m))
  top_none (suc k) u l m = by_test (in_bucket rows h (driver_at ds k))
      (λ t. let l' : (if true then k else top_below ds rows k h) < u = subst (λ (b : Bool). (if b then k else top_below ds rows k h) < u) t l in absurd (omega (arith, l', m)))
      (λ f. let l' : (if false then k else top_below ds rows k h) < u = subst (λ (b : Bool). (if b then k else top_below ds rows k h) < u) f l in
      by_test (u == k)
      (λ y. subst (λ (v : ℕ). in_bucket rows h (driver_at ds v) ≡ false) (sym (eqb-true u k y)) f)
      (λ n. top_none k u l' (omega (arith, m, eqb-false u k n))))

-- drivers that agree below k have the same chains there
pub top_same : (ds es : List Driver) (rows h k : ℕ) → ((u : ℕ) → u < k → driver_at es u ≡ driver_at ds u) → top_below es rows k h ≡ top_below ds rows k h
top_same ds es rows h zero e = refl
top_same ds es rows h (suc k) e =
    let i = top_same ds es rows h k (λ u l. e u (omega (arith, l))) in
    let b : in_bucket rows h (driver_at es k) ≡ in_bucket rows h (driver_at ds k) = ap (in_bucket rows h) (e k (omega arith)) in
    (λ z. if b z then k else i z)

-- a pair lies in its bucket
pub pair_bucket : (rows lo hi : ℕ) (d : Driver) → is_pair lo hi d ≡ true → in_bucket rows (bucket_of rows lo hi) d ≡ true
pair_bucket rows lo hi (And x y) e =
    let a : lo ≡ x.word = eqb-true lo x.word (and_l (lo == x.word) (hi == y.word) e) in
    let b : hi ≡ y.word = eqb-true hi y.word (and_r (lo == x.word) (hi == y.word) e) in
    eq-eqb (bucket_of rows x.word y.word) (bucket_of rows lo hi) (λ i. bucket_of rows (sym a i) (sym b i))
pair_bucket rows lo hi (Port q) e = true≢false false e refl
pair_bucket rows lo hi (Flag q x) e = true≢false false e refl
pair_bucket rows lo hi (Dff c) e = true≢false false e refl
pair_bucket rows lo hi (Ram c) e = true≢false false e refl
pair_bucket rows lo hi Constant e = true≢false false e refl

pub not_pair : (rows lo hi : ℕ) (d : Driver) → in_bucket rows (bucket_of rows lo hi) d ≡ false → is_pair lo hi d ≡ false
not_pair rows lo hi d f = by_test (is_pair lo hi d) (λ t. true≢false (in_bucket rows (bucket_of rows lo hi) d) (pair_bucket rows lo hi d t) f) (λ n. n)

-- ---- the first pin that passes a test
pub first_all : (t : Driver → Bool) (ds : List Driver) → ((u : ℕ) → u < length ds → t (driver_at ds u) ≡ false) → first_pin t ds ≡ length ds
first_all t [] n = refl
first_all t (d ∷ ds) n = rw (n 0 (omega arith)) (ap suc (first_all t ds (λ u l. n (suc u) (omega (arith, l)))))

pub first_at : (t : Driver → Bool) (ds : List Driver) (p : ℕ) → p < length ds → t (driver_at ds p) ≡ true → ((u : ℕ) → u < p → t (driver_at ds u) ≡ false) → first_pin t ds ≡ p
first_at t [] p l y n = absurd (omega arith)
first_at t (d ∷ ds) zero l y n = rw y
first_at t (d ∷ ds) (suc p) l y n = rw (n 0 (omega arith)) (ap suc (first_at t ds p (omega (arith, l)) y (λ u k. n (suc u) (omega (arith, k)))))

pub first_past : (t : Driver → Bool) (ds : List Driver) → length ds ≤ first_pin t ds → (u : ℕ) → u < length ds → t (driver_at ds u) ≡ false
first_past t [] l u k = absurd (omega arith)
first_past t (d ∷ ds) l zero k = by_test (t d)
    (λ y. let l' : suc (length ds) ≤ (if true then 0 else suc (first_pin t ds)) = subst (λ (b : Bool). suc (length ds) ≤ (if b then 0 else suc (first_pin t ds))) y l in absurd (omega (arith, l')))
    (λ n. n)
first_past t (d ∷ ds) l (suc u) k = by_test (t d)
    (λ y. let l' : suc (length ds) ≤ (if true then 0 else suc (first_pin t ds)) = subst (λ (b : Bool). suc (length ds) ≤ (if b then 0 else suc (first_pin t ds))) y l in absurd (omega (arith, l')))
    (λ n. let l' : suc (length ds) ≤ (if false then 0 else suc (first_pin t ds)) = subst (λ (b : Bool). suc (length ds) ≤ (if b then 0 else suc (first_pin t ds))) n l in
    first_past t ds (omega (arith, l')) u (omega (arith, k)))

-- ---- drivers that are no gates, and pins past the last
pub gate_pair : (lo hi : ℕ) (d : Driver) → is_gate d ≡ false → is_pair lo hi d ≡ false
gate_pair lo hi (And a b) g = true≢false true refl g
gate_pair lo hi (Port q) g = refl
gate_pair lo hi (Flag q e) g = refl
gate_pair lo hi (Dff c) g = refl
gate_pair lo hi (Ram c) g = refl
gate_pair lo hi Constant g = refl

pub gate_bucket : (rows h : ℕ) (d : Driver) → is_gate d ≡ false → in_bucket rows h d ≡ false
gate_bucket rows h (And a b) g = true≢false true refl g
gate_bucket rows h (Port q) g = refl
gate_bucket rows h (Flag q e) g = refl
gate_bucket rows h (Dff c) g = refl
gate_bucket rows h (Ram c) g = refl
gate_bucket rows h Constant g = refl

pub driver_past : (ds : List Driver) (u : ℕ) → length ds ≤ u → driver_at ds u ≡ Constant
driver_past [] u l = refl
driver_past (d ∷ ds) zero l = absurd (omega (arith, l))
driver_past (d ∷ ds) (suc u) l = driver_past ds u (omega (arith, l))
