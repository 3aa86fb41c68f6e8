-- Where the stages end: nothing handed on means that every endpoint is taken, and as long as something is handed on, the next split has
-- an input to visit.
use Rattle.std.specs.Prelude.{Option, None, Some}
use mathlib.Core.Path.{◌≡◌, refl, ap}
use mathlib.Core.Logic.{◌⊎◌, inl, inr}
use mathlib.Core.Bool.{true, false}
use mathlib.Core.List.{List, [], ◌∷◌}
use Prim.Native.Nat.{ℕ, suc, ◌<◌}
use native.Mathlib.Omega.{arith}
use lib.ListN.{length}
use borrow.Author.Tests.{leb-false, le-leb, lt-leb, lt-ltb}
use Rattle.laws.specs.Tests.{◌<?◌}
use Rattle.laws.specs.Lists.{count, member, every, flat}
use Rattle.laws.specs.Search.{level}
use Rattle.laws.proofs.Tests.{by_test, true≢false}
use Rattle.laws.proofs.Bags.{member_true, member_false, none_in, count-drop, every_true, every_false, every_all, of_flat, any-one}
use Rattle.laws.proofs.Sets.{count_removes}
use Rattle.laws.proofs.Levels.{level_lt, level_cross}
use Rattle.laws.proofs.Visits.{visits-only}
use Rattle.rules.specs.Graph.{Graph}
use Rattle.rules.specs.Stages.{inputs, back, within, order, low, takes, split}
use Rattle.rules.specs.Refusals.{something_read}
use Rattle.cuts.specs.Checked.{Checked}
use Rattle.cuts.specs.Onward.{ReaderLeft, gate_left, endpoint_left, EndpointLeft}
use Rattle.cuts.proofs.Operands.{back_below, level_stop}
use Rattle.cuts.proofs.Order.{in_order, order_closed}
use Rattle.cuts.proofs.Exact.{hands, handed_onward}
use Rattle.cuts.proofs.Next.{left_next}

module _ (g : Graph) (ck : Checked g) where
  -- where nothing is handed on every endpoint left is taken; a difference of 0 would break it, unless nothing was handed on before
  pub all_taken_lem : (left before : List ℕ) (d : ℕ) → (0 < d) ⊎ (before ≡ []) → (split g left before (Some d)).handed ≡ []
      → (e : ℕ) → 0 < count e left → every (low g before (Some d)) (inputs g e) ≡ true
  all_taken_lem left before d h z e m = by_test (every (low g before (Some d)) (inputs g e)) (λ t. t) (λ f.
      every_false (low g before (Some d)) (inputs g e) f (λ i mi fi.
      level_cross (back g before) (back_below g ck before) (λ u. 0 < count u (order g left before)) (order_closed g ck left before) d (suc i) i (omega arith)
      (in_order g ck left before e i m mi) (leb-false (level (back g before) i) d fi)
      (λ v o mv lv mo lo. absurd (crossed v o mv lv mo lo (free h o lo)))))
    where
      -- the pin at level d on the way down was not handed on before
      free : (0 < d) ⊎ (before ≡ []) → (o : ℕ) → level (back g before) o ≡ d → count o before ≡ 0
      free (inl p) o l = by_test (member o before)
          (λ t. absurd (omega (arith, level_stop g ck before o (member_true o before t))))
          (λ n. member_false o before n)
      free (inr e') o l = ap (count o) e'

      -- so it would be handed on now
      crossed : (v o : ℕ) → 0 < count v (order g left before) → d < level (back g before) v → 0 < count o (back g before v)
          → level (back g before) o ≡ d
          → count o before ≡ 0 → ⊥
      crossed v o mv lv mo lo nb = omega (
        arith,
        ap (count o) z,
        hands g left before (Some d) o (record {
          visited = order_closed g ck left before v o mv mo;
          is_low = le-leb (level (back g before) o) d (omega arith);
          is_new = nb;
          reader = gate_left v mv (lt-leb (level (back g before) v) d lv) mo;
        }),
      )

  module _ (left before : List ℕ) (d : Option ℕ) where
    high_up : (u o : ℕ) → level (back g before) o < level (back g before) u → low g before d o ≡ false → low g before d u ≡ false
    high_up u o l f = go d f
      where
        go : (d' : Option ℕ) → within d' (level (back g before) o) ≡ false → within d' (level (back g before) u) ≡ false
        go None e = e
        go (Some n) e = lt-leb (level (back g before) u) n (omega (arith, leb-false (level (back g before) o) n e))

    -- a gate visited whose level is too high is there for an endpoint that is not taken
    high_visited : (u : ℕ) → 0 < count u (order g left before) → low g before d u ≡ false → EndpointLeft g left before d
    high_visited = visits-only (back g before) (λ u. low g before d u ≡ false → EndpointLeft g left before d)
        (λ u o w m f. w (high_up u o (level_lt (back g before) (back_below g ck before) u o m) f))
        (flat (inputs g) left)
        (λ u m f. of_flat (inputs g) u left m (λ e me mi. record {
          endpoint = e;
          input = u;
          is_left = me;
          is_input = mi;
          not_taken = by_test (every (low g before d) (inputs g e))
              (λ t. true≢false (low g before d u) (every_true (low g before d) u (inputs g e) t mi) f) (λ n. n);
        }))

    left_over : (p : ℕ) → ReaderLeft g left before d p → EndpointLeft g left before d
    left_over p (gate_left u m f k) = high_visited u m f
    left_over p (endpoint_left e m f k) = record { endpoint = e; input = p; is_left = m; not_taken = f; is_input = k }

    -- where a pin is handed on, an endpoint is left, and it reads a pin other than 0
    pub goes_on : (p : ℕ) → 0 < count p (split g left before d).handed → EndpointLeft g left before d
    goes_on p m = left_over p (handed_onward g left before d ck p m).reader

    -- so the next split never lacks an input
    pub next-reads : (p : ℕ) → 0 < count p (split g left before d).handed → something_read g (left_next g left before d) ≡ true
    unfolding split
    next-reads p m = let w : EndpointLeft g left before d = goes_on p m in
        any-one (λ e. 0 <? length (inputs g e)) w.endpoint (left_next g left before d)
        (omega (
          arith,
          w.is_left,
          count_removes left (takes g left before d) w.endpoint,
          count-drop (λ e. every (low g before d) (inputs g e)) w.endpoint left w.not_taken,
        ))
        (lt-ltb 0 (length (inputs g w.endpoint)) (not_nil (inputs g w.endpoint) w.input w.is_input))
      where
        not_nil : (l : List ℕ) (x : ℕ) → 0 < count x l → 0 < length l
        not_nil [] x k = k
        not_nil (y ∷ l) x k = omega arith

  -- without an upper end every endpoint left is taken and nothing is handed on
  pub last_takes : (left before : List ℕ) (e : ℕ) → every (low g before None) (inputs g e) ≡ true
  last_takes left before e = every_all (low g before None) (inputs g e) (λ y m. refl)

  pub last_hands_none : (left before : List ℕ) → (split g left before None).handed ≡ []
  last_hands_none left before = none_in (split g left before None).handed (λ p. by_test (member p (split g left before None).handed)
      (λ t. let w : EndpointLeft g left before None = goes_on left before None p (member_true p (split g left before None).handed t) in
      true≢false (every (low g before None) (inputs g w.endpoint)) (last_takes left before w.endpoint) w.not_taken)
      (λ f. member_false p (split g left before None).handed f))
