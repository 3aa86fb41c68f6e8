-- The search for a pair in the code's shape: how it begins, finds, goes on and ends.
use mathlib.Core.Path.{◌≡◌, refl, sym, ap, subst, ◌∙◌}
use mathlib.Core.Bool.{Bool, true, false}
use mathlib.Core.List.{List}
use Prim.Native.Nat.{ℕ, zero, suc, ◌+◌, ◌*◌, ◌/◌, ◌%◌, ◌≤◌, ◌<◌}
use native.Mathlib.Omega.{arith}
use native.Mathlib.Nat.{mod-lt}
use lib.ListN.{length, get_or, set}
use borrow.Author.Tests.{eqb-true, eqb-false, ltb-true, ltb-false}
use Rattle.std.specs.Prelude.{◌==◌}
use Rattle.laws.specs.Tests.{◌<?◌}
use Rattle.laws.proofs.Tests.{by_test}
use Rattle.rules.specs.declared.Driver.{Driver}
use Rattle.rules.specs.Graph.{driver_at, first_pin, is_pair}
use Rattle.rules.specs.Tables.{drivers_in}
use Rattle.drivers.proofs.Rows.{drivers_long_lem}
use Rattle.gates.specs.Step.{is_pair_at, bucket_of, in_bucket, top_below, rows_of, chained, Ready}
use Rattle.gates.proofs.Pairs.{row_pair}
use Rattle.gates.proofs.Chains.{top_less, top_in, top_none, not_pair, first_all, first_at}

pub bucket_less : (rows lo hi : ℕ) → bucket_of rows lo hi < 2 * rows + 1
unfolding bucket_of
bucket_less rows lo hi = mod-lt (lo * 663608969 + hi * 374762369) (omega arith)

pub bucket_is : (rows lo hi : ℕ) → (lo * 663608969 + hi * 374762369) % (2 * rows + 1) ≡ bucket_of rows lo hi
unfolding bucket_of
bucket_is rows lo hi = refl

pub bucket_low : (rows lo hi : ℕ) → (lo * 663608969 + hi * 374762369) % (2 * rows + 1) < 2 * rows + 1
bucket_low rows lo hi = mod-lt (lo * 663608969 + hi * 374762369) (omega arith)

-- at pin p of the chain: it lies in the bucket, and no pin above it is the gate of (lo, hi)
pub record Searching (ws : List ℕ) (pins lo hi p : ℕ) : Type 0 where
  pub below : p ≤ pins
  pub here : (p ≡ 0 → ⊥) → in_bucket (rows_of ws) (bucket_of (rows_of ws) lo hi) (driver_at (drivers_in ws pins) p) ≡ true
  pub passed : (u : ℕ) → p < u → u ≤ pins → is_pair lo hi (driver_at (drivers_in ws pins) u) ≡ false

module _ (at : ℕ) (w ws : List ℕ) (pins lo hi : ℕ) (ready : Ready at w ws pins) where
  abbrev ds : List Driver
  ds = drivers_in ws pins

  long : length (drivers_in ws pins) ≡ pins + 1
  long = drivers_long_lem ws pins

  pub rows_few : length ws / 3 ≤ 16777216
  rows_few = omega (arith, ready.bounded)

  pub search_begins : (b : ℕ) → b ≡ bucket_of (length ws / 3) lo hi → Searching ws pins lo hi (get_or w (at + length ws / 3 + b) 0)
  search_begins b e = subst (Searching ws pins lo hi) (sym top) (record {
    below = omega (arith, top_less ds (rows_of ws) h (pins + 1) (omega arith));
    here = top_in ds (rows_of ws) h (pins + 1);
    passed = λ u l m. not_pair (rows_of ws) lo hi (driver_at ds u) (top_none ds (rows_of ws) h (pins + 1) u l (omega (arith, m)));
  })
    where
      h : ℕ
      h = bucket_of (rows_of ws) lo hi

      top : get_or w (at + length ws / 3 + b) 0 ≡ top_below ds (rows_of ws) (pins + 1) h
      top = ap (λ (x : ℕ). get_or w (at + length ws / 3 + x) 0) e ∙ ready.heads h (bucket_less (rows_of ws) lo hi)

  module _ (p : ℕ) (s : Searching ws pins lo hi p) where
    row : is_pair_at ws p lo hi ≡ is_pair lo hi (driver_at ds p)
    row = row_pair ws ds p lo hi ready.held (omega (arith, long, s.below))

    pub search_finds : (r : Bool) → r ≡ is_pair_at ws p lo hi → r ≡ true → p ≡ first_pin (is_pair lo hi) (drivers_in ws pins)
    search_finds r e t = sym (first_at (is_pair lo hi) ds p (omega (arith, long, s.below)) yes
        (λ u l. by_test (is_pair lo hi (driver_at ds u)) (λ y. absurd (omega (arith, ready.once u p lo hi y yes, l))) (λ n. n)))
      where
        yes : is_pair lo hi (driver_at ds p) ≡ true
        yes = sym row ∙ sym e ∙ t

    pub search_goes_on : (r : Bool) → (p ≡ 0 → ⊥) → r ≡ is_pair_at ws p lo hi → r ≡ false → Searching ws pins lo hi (get_or w (at + p) 0)
    search_goes_on r n e f = subst (Searching ws pins lo hi) (sym link) (record {
      below = omega (arith, less, s.below);
      here = top_in ds (rows_of ws) h p;
      passed = above;
    })
      where
        h : ℕ
        h = bucket_of (rows_of ws) lo hi

        link : get_or w (at + p) 0 ≡ top_below ds (rows_of ws) p h
        link = ready.links p h s.below (s.here n)

        less : top_below ds (rows_of ws) p h < p
        less = top_less ds (rows_of ws) h p (omega (arith, n))

        above : (u : ℕ) → top_below ds (rows_of ws) p h < u → u ≤ pins → is_pair lo hi (driver_at ds u) ≡ false
        above u l m = by_test (u == p)
            (λ y. subst (λ (v : ℕ). is_pair lo hi (driver_at ds v) ≡ false) (sym (eqb-true u p y)) (sym row ∙ sym e ∙ f))
            (λ k. by_test (u <? p)
            (λ y. not_pair (rows_of ws) lo hi (driver_at ds u) (top_none ds (rows_of ws) h p u l (ltb-true u p y)))
            (λ z. s.passed u (omega (arith, ltb-false u p z, eqb-false u p k)) m))

    pub link_less : (p ≡ 0 → ⊥) → get_or w (at + p) 0 < p
    link_less n = omega (arith, ready.links p (bucket_of (rows_of ws) lo hi) s.below (s.here n), top_less ds (rows_of ws) (bucket_of (rows_of ws) lo hi) p (omega (arith, n)))

    pub search_ends : p ≡ 0 → pins + 1 ≡ first_pin (is_pair lo hi) (drivers_in ws pins)
    search_ends z = sym (first_all (is_pair lo hi) ds (λ u l. none u (omega (arith, l, long))) ∙ long)
      where
        none : (u : ℕ) → u ≤ pins → is_pair lo hi (driver_at ds u) ≡ false
        none zero l = ap (is_pair lo hi) ready.first
        none (suc u) l = s.passed (suc u) (omega (arith, z)) l

-- ---- a gate goes to the head of its bucket's chain
pub chain_is : (w : List ℕ) (at rows p lo hi b : ℕ) → b ≡ bucket_of rows lo hi
    → set (set w (at + p) (get_or w (at + rows + b) 0)) (at + rows + b) p ≡ chained w at rows p (bucket_of rows lo hi)
unfolding chained
chain_is w at rows p lo hi b e = ap (λ (x : ℕ). set (set w (at + p) (get_or w (at + rows + x) 0)) (at + rows + x) p) e
