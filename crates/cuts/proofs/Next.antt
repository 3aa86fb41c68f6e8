-- From one split to the next: what it visits was visited before, and is handed on if it was low. So no source is left behind.
use Rattle.std.specs.Prelude.{Option}
use mathlib.Core.Path.{◌≡◌, refl, ◌∙◌}
use mathlib.Core.Bool.{Bool, true, false}
use mathlib.Core.List.{List, [], ◌++◌}
use Prim.Native.Nat.{ℕ, ◌≤◌, ◌<◌}
use native.Mathlib.Omega.{arith}
use Rattle.laws.specs.Lists.{count, member, every, flat, over}
use Rattle.laws.specs.Sets.{remove}
use Rattle.laws.proofs.Tests.{by_test}
use Rattle.laws.proofs.Bags.{member_true, member_false, count-append, of_flat, count-keep, count-drop, keep_le, keep_true}
use Rattle.laws.proofs.Sets.{count_removes}
use Rattle.laws.proofs.Visits.{visits-only}
use Rattle.rules.specs.Graph.{Graph, operands, driver_of}
use Rattle.rules.specs.Stages.{inputs, back, order, low, takes, split}
use Rattle.cuts.specs.Checked.{Checked}
use Rattle.cuts.specs.Onward.{ReaderLeft, gate_left, endpoint_left}
use Rattle.cuts.proofs.Operands.{within_zero, back_go, back_free, level-none}
use Rattle.cuts.proofs.Order.{in_order, order_closed}
use Rattle.cuts.proofs.Exact.{hands}

-- the endpoints and the handed-on pins of the next split
abbrev pub left_next : Graph → List ℕ → List ℕ → Option ℕ → List ℕ
left_next g left before d = over remove left (split g left before d).taken

abbrev pub before_next : Graph → List ℕ → List ℕ → Option ℕ → List ℕ
before_next g left before d = before ++ (split g left before d).handed

module _ (g : Graph) (left before : List ℕ) (d : Option ℕ) where
  abbrev tk : ℕ → Bool
  tk e = every (low g before d) (inputs g e)

  -- exactly the endpoints left whose inputs are all low are taken
  pub taken_is : (split g left before d).taken ≡ takes g left before d
  unfolding split
  taken_is = refl

  pub taken_le : (e : ℕ) → count e (split g left before d).taken ≤ count e left
  unfolding split
  taken_le e = keep_le tk e left

  pub taken_low : (e : ℕ) → 0 < count e (split g left before d).taken → every (low g before d) (inputs g e) ≡ true
  unfolding split
  taken_low e m = keep_true tk e left m

  pub low_taken : (e : ℕ) → every (low g before d) (inputs g e) ≡ true → count e (split g left before d).taken ≡ count e left
  unfolding split
  low_taken e t = count-keep tk e left t

  pub high_left : (e : ℕ) → every (low g before d) (inputs g e) ≡ false → count e (split g left before d).taken ≡ 0
  unfolding split
  high_left e f = count-drop tk e left f

  pub left-next : (e : ℕ) → 0 < count e (left_next g left before d) → (0 < count e left) × (every (low g before d) (inputs g e) ≡ false)
  left-next e m = (
    omega (arith, m, count_removes left (split g left before d).taken e),
    by_test (tk e)
        (λ t. absurd (omega (arith, m, count_removes left (split g left before d).taken e, low_taken e t)))
        (λ f. f),
  )

  -- a low pin with a reader left is handed on, now or before
  covers : (p : ℕ) → 0 < count p (order g left before) → low g before d p ≡ true → ReaderLeft g left before d p
      → 0 < count p (before_next g left before d)
  covers p m k r = rw (count-append p before (split g left before d).handed) (by_test (member p before)
      (λ t. omega (arith, member_true p before t))
      (λ n. omega (arith, hands g left before d p (record { visited = m; is_low = k; is_new = member_false p before n; reader = r }))))

  module _ (ck : Checked g) where
    abbrev Known : ℕ → Type 0
    Known p = (0 < count p (order g left before)) × (low g before d p ≡ true → 0 < count p (before_next g left before d))

    pub next-visits : (p : ℕ) → 0 < count p (order g (left_next g left before d) (before_next g left before d))
        → (0 < count p (order g left before)) × (low g before d p ≡ true → 0 < count p (before_next g left before d))
    next-visits = visits-only (back g (before_next g left before d)) Known
        (λ u o w m. behind u o w m) (flat (inputs g) (left_next g left before d))
        (λ p m. of_flat (inputs g) p (left_next g left before d) m (λ e me mi. at_end e p (left-next e me) mi))
      where
        at_end : (e p : ℕ) → (0 < count e left) × (tk e ≡ false) → 0 < count p (inputs g e) → Known p
        at_end e p w m = (in_order g ck left before e p w.0 m, λ k. covers p (in_order g ck left before e p w.0 m) k (endpoint_left e w.0 w.1 m))

        behind : (u o : ℕ) → Known u → 0 < count o (back g (before_next g left before d) u) → Known o
        behind u o w m =
            let free : count u (before_next g left before d) ≡ 0 = back_free g (before_next g left before d) u o m in
            let high : low g before d u ≡ false = by_test (low g before d u) (λ t. absurd (omega (arith, w.1 t))) (λ f. f) in
            let still : 0 < count o (back g before u) = rw (back_go g before u (omega (arith, count-append u before (split g left before d).handed)))
            (rw (back_go g (before_next g left before d) u free) at m) in
            let seen : 0 < count o (order g left before) = order_closed g ck left before u o w.0 still in
            (seen, λ k. covers o seen k (gate_left u w.0 high still))

    -- a source that the next split meets was handed on
    pub sources_handed : (u : ℕ) → 0 < count u (order g (left_next g left before d) (before_next g left before d))
        → operands (driver_of g u) ≡ [] → 0 < count u (before_next g left before d)
    sources_handed u m e = by_test (member u before)
        (λ t. omega (arith, member_true u before t, count-append u before (split g left before d).handed))
        (λ n. (next-visits u m).1 (rw (level-none g ck before u (back_go g before u (member_false u before n) ∙ e)) (within_zero d)))
