-- The visit order of a split: it has what the endpoints left read and all that lies behind it, each pin once, and each is read.
use mathlib.Core.List.{List, [], map}
use Prim.Native.Nat.{ℕ, ◌≤◌, ◌<◌}
use native.Mathlib.Omega.{arith}
use borrow.Author.Tests.{ltb-true}
use Rattle.laws.specs.Tests.{◌<?◌}
use Rattle.laws.specs.Lists.{count, flat}
use Rattle.laws.proofs.Bags.{in_left, in_right, in_flat, of_flat, keep_le, keep_true}
use Rattle.laws.proofs.Visits.{visits_has, visits_closed, visits-only, Ranked, visits_ranked, ranked_once}
use Rattle.rules.specs.Graph.{pin_of, Graph, pin_count}
use Rattle.rules.specs.Stages.{reads, inputs, back, order, readings}
use Rattle.cuts.specs.Checked.{Checked}
use Rattle.cuts.proofs.Lists.{map-member}
use Rattle.cuts.proofs.Operands.{back_below, back_positive}

module _ (g : Graph) (ck : Checked g) where
  -- an input is a pin of the graph other than 0
  pub input_fits : (e i : ℕ) → 0 < count i (inputs g e) → (0 < i) × (i ≤ pin_count g)
  input_fits e i m = (
    ltb-true 0 i (keep_true (λ p. 0 <? p) i (map pin_of (reads g e)) m),
    map-member pin_of (reads g e) i (omega (arith, m, keep_le (λ p. 0 <? p) i (map pin_of (reads g e)))) (λ l ml e'. rw e' (ck.reads_fit e l ml)),
  )

  module _ (left before : List ℕ) where
    pub in_order : (e i : ℕ) → 0 < count e left → 0 < count i (inputs g e) → 0 < count i (order g left before)
    in_order e i m k = visits_has (back g before) (flat (inputs g) left) i (in_flat (inputs g) e i left m k)

    pub order_closed : (u o : ℕ) → 0 < count u (order g left before) → 0 < count o (back g before u) → 0 < count o (order g left before)
    order_closed = visits_closed (back g before) (back_below g ck before) (flat (inputs g) left)

    pub order_ranked : Ranked (back g before) [] (order g left before)
    order_ranked = visits_ranked (back g before) (back_below g ck before) (flat (inputs g) left)

    pub order-once : (p : ℕ) → count p (order g left before) ≤ 1
    order-once p = ranked_once (back g before) (order g left before) [] p order_ranked

    -- only pins of the graph are visited, and pin 0 is not
    pub order_fits : (p : ℕ) → 0 < count p (order g left before) → (0 < p) × (p ≤ pin_count g)
    order_fits = visits-only (back g before) (λ p. (0 < p) × (p ≤ pin_count g))
        (λ u o w m. (back_positive g ck before u o m, omega (arith, w.1, back_below g ck before u o m)))
        (flat (inputs g) left)
        (λ p m. of_flat (inputs g) p left m (λ e me mi. input_fits e p mi))

    -- every pin visited is read
    pub visited_read : (p : ℕ) → 0 < count p (order g left before) → 0 < count p (readings g left before)
    visited_read p m = (both p m).1
      where
        us : List ℕ
        us = order g left before

        both : (q : ℕ) → 0 < count q us → (0 < count q us) × (0 < count q (readings g left before))
        both = visits-only (back g before) (λ q. (0 < count q us) × (0 < count q (readings g left before)))
            (λ u o w k. (order_closed u o w.0 k, in_left o (flat (back g before) us) (flat (inputs g) left) (in_flat (back g before) u o us w.0 k)))
            (flat (inputs g) left)
            (λ u k. (visits_has (back g before) (flat (inputs g) left) u k, in_right u (flat (back g before) us) (flat (inputs g) left) k))
