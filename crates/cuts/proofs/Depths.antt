-- Levels within a stage are levels of the whole graph counted from the stage's lower end; so an endpoint's depth says which stage takes it.
use Rattle.std.specs.Prelude.{None, Some}
use mathlib.Core.Path.{◌≡◌, refl, sym, ◌∙◌, ap}
use mathlib.Core.List.{List, [], ◌∷◌}
use Prim.Native.Nat.{ℕ, zero, suc, ◌+◌, ◌-◌, ◌≤◌, ◌<◌, max}
use native.Mathlib.Omega.{arith}
use borrow.Author.Tests.{leb-true, leb-false, le-leb}
use Rattle.laws.specs.Tests.{◌≤?◌}
use Rattle.laws.specs.Lists.{count, member, every}
use Rattle.laws.specs.Search.{above, level}
use Rattle.laws.proofs.Tests.{by_test, bits_same}
use Rattle.laws.proofs.Bags.{member_true, member_false, count-append, every_true, every_all, at_head, here, there}
use Rattle.laws.proofs.Sets.{count_removes}
use Rattle.laws.proofs.Levels.{above_lt, above_got, level_is}
use Rattle.rules.specs.Graph.{Graph, operands, driver_of}
use Rattle.rules.specs.Stages.{inputs, back, order, low, split, Row, row, stages_from}
use Rattle.cuts.specs.Checked.{Checked}
use Rattle.cuts.specs.Turns.{InTurn}
use Rattle.cuts.specs.Depths.{whole_level, largest, depth, first_reaching, first_at_least, row_at, Leveled}
use Rattle.cuts.proofs.Operands.{back_go, back_below, level_stop}
use Rattle.cuts.proofs.Order.{in_order, order_closed}
use Rattle.cuts.proofs.Exact.{handed_low, handed_visited}
use Rattle.cuts.proofs.Next.{left_next, before_next, next-visits, low_taken, high_left}
use Rattle.cuts.proofs.Stages.{Climbs, Ends, stages_by, stages_turn, last_taken}

-- ---- the largest
pub largest_at : (h : ℕ → ℕ) (l : List ℕ) (x : ℕ) → 0 < count x l → h x ≤ largest h l
largest_at h [] x m = absurd (omega arith)
largest_at h (y ∷ l) x m = at_head x y l m (λ e. rw e (omega arith)) (λ m'. omega (arith, largest_at h l x m'))

pub largest_le : (h : ℕ → ℕ) (l : List ℕ) (n : ℕ) → ((x : ℕ) → 0 < count x l → h x ≤ n) → largest h l ≤ n
largest_le h [] n k = omega arith
largest_le h (y ∷ l) n k = omega (arith, k y (here y l), largest_le h l n (λ x m. k x (there x y l m)))

-- one above the highest, where heights are counted from b
from_both : (b x y h k : ℕ) → b + x ≡ max b y → b + h ≡ max (suc b) k → b + max (suc x) h ≡ max (suc b) (max (suc y) k)
from_both b x y h k e f = omega arith

above_from : (b : ℕ) (h k : ℕ → ℕ) (l : List ℕ) → ((o : ℕ) → 0 < count o l → b + h o ≡ max b (k o)) → 0 < above h l
    → b + above h l ≡ max (suc b) (above k l)
above_from b h k [] e z = absurd (omega arith)
above_from b h k (x ∷ []) e z = omega (arith, e x (here x []))
above_from b h k (x ∷ y ∷ l) e z = from_both b (h x) (k x) (above h (y ∷ l)) (above k (y ∷ l)) (e x (here x (y ∷ l)))
    (above_from b h k (y ∷ l) (λ o m. e o (there o x (y ∷ l) m)) (omega arith))

-- the first stage whose upper end reaches an endpoint's depth has it, and that is the stage of the first level that does
abbrev pub Placed : Graph → List ℕ → ℕ → List ℕ → List ℕ → List Row → Type 0
Placed g bs a left before rows = Leveled g a left before → (e : ℕ) → 0 < count e left
    → (count e (row_at rows (first_reaching (depth g e) rows)).stage.taken ≡ count e left) × (first_reaching (depth g e) rows ≡ first_at_least (depth g e) bs)

module _ (g : Graph) (ck : Checked g) where
  -- where a stage begins
  pub leveled_first : (left : List ℕ) → Leveled g 0 left []
  leveled_first left = record { passed = λ u m k. absurd (omega arith); ahead = λ u m k. omega arith }

  module _ (left before : List ℕ) (a b : ℕ) (le : a ≤ b) (at : Leveled g a left before) where
    abbrev left' : List ℕ
    left' = left_next g left before (Some (b - a))

    abbrev before' : List ℕ
    before' = before_next g left before (Some (b - a))

    abbrev hs : List ℕ
    hs = (split g left before (Some (b - a))).handed

    next-passed : (u : ℕ) → 0 < count u (order g left' before') → 0 < count u before' → whole_level g u ≤ b
    next-passed u m k = by_test (member u before)
        (λ t. omega (arith, at.passed u (next-visits g left before (Some (b - a)) ck u m).0 (member_true u before t)))
        (λ f. let new : 0 < count u hs = omega (arith, k, member_false u before f, count-append u before hs) in
        omega (
          arith,
          leb-true (level (back g before) u) (b - a) (handed_low g left before (Some (b - a)) u new),
          at.ahead u (handed_visited g left before (Some (b - a)) u new) (member_false u before f),
        ))

    -- a pin that is not handed on was too high for the stage
    pub next_high : (u : ℕ) → 0 < count u (order g left' before') → count u before' ≡ 0 → b < whole_level g u
    next_high u m n = by_test (low g before (Some (b - a)) u)
        (λ t. absurd (omega (arith, n, (next-visits g left before (Some (b - a)) ck u m).1 t)))
        (λ f. omega (
          arith,
          leb-false (level (back g before) u) (b - a) f,
          at.ahead u (next-visits g left before (Some (b - a)) ck u m).0
              (omega (arith, n, count-append u before hs)),
        ))

    next_from : (f u : ℕ) → u < f → 0 < count u (order g left' before') → b + level (back g before') u ≡ max b (whole_level g u)
    next_from zero u h m = absurd (omega arith)
    next_from (suc f) u h m = by_test (member u before')
        (λ t. omega (arith, level_stop g ck before' u (member_true u before' t), next-passed u m (member_true u before' t)))
        (λ n. let free : count u before' ≡ 0 = member_false u before' n in
        let ops : List ℕ = operands (driver_of g u) in
        let staged : level (back g before') u ≡ above (level (back g before')) ops =
        level_is (back g before') (back_below g ck before') u ∙ ap (above (level (back g before'))) (back_go g before' u free) in
        let whole : whole_level g u ≡ above (whole_level g) ops = level_is (back g []) (back_below g ck []) u in
        let high : b < whole_level g u = next_high u m free in
        above_got (whole_level g) ops (omega (arith, whole, high)) (λ v mv ev.
        omega (
          arith,
          staged,
          whole,
          high,
          above_from b (level (back g before')) (whole_level g) ops
              (λ o mo. next_from f o (omega (arith, back_below g ck [] u o mo)) (order_closed g ck left' before' u o m (rw (back_go g before' u free) mo)))
              (omega (arith, above_lt (level (back g before')) ops v mv)),
        )))

    pub leveled_next : Leveled g b left' before'
    leveled_next = record {
      passed = next-passed;
      ahead = λ u m n. omega (arith, next_from (suc u) u (omega arith) m, next_high u m n);
    }

    -- the stage takes an endpoint exactly where its upper end reaches the endpoint's depth
    pub taken_by_depth : (e : ℕ) → 0 < count e left → every (low g before (Some (b - a))) (inputs g e) ≡ (depth g e ≤? b)
    taken_by_depth e m = bits_same (every (low g before (Some (b - a))) (inputs g e)) (depth g e ≤? b)
        (λ t. le-leb (depth g e) b (largest_le (whole_level g) (inputs g e) b (λ i mi. by_test (member i before)
        (λ y. omega (arith, at.passed i (in_order g ck left before e i m mi) (member_true i before y)))
        (λ n. omega (
          arith,
          at.ahead i (in_order g ck left before e i m mi) (member_false i before n),
          leb-true (level (back g before) i) (b - a) (every_true (low g before (Some (b - a))) i (inputs g e) t mi),
        )))))
        (λ t. every_all (low g before (Some (b - a))) (inputs g e) (λ i mi. le-leb (level (back g before) i) (b - a)
        (let deep : whole_level g i ≤ b = omega (arith, leb-true (depth g e) b t, largest_at (whole_level g) (inputs g e) i mi) in
        by_test (member i before)
        (λ y. omega (arith, level_stop g ck before i (member_true i before y)))
        (λ n. omega (arith, at.ahead i (in_order g ck left before e i m mi) (member_false i before n))))))

  -- ---- each stage in turn
  pub stages_leveled : (bs : List ℕ) (a : ℕ) (left before : List ℕ) → Climbs before a bs → Leveled g a left before
      → InTurn (λ l f r. Leveled g r.lower l f) left before (stages_from g a left before bs)
  stages_leveled = stages_turn g ck (λ l f r. Leveled g r.lower l f) (λ a l f. Leveled g a l f) (λ _ _ _ i. i) (λ _ _ _ _ _ i. i)
      (λ a b l f le n i. leveled_next l f a b le i)

  placed_last : (bs : List ℕ) (a : ℕ) (left before : List ℕ) → Ends g a left before bs
      → Placed g bs a left before (row a None (split g left before None) ∷ [])
  placed_last [] a left before w at e m = (ap (count e) (last_taken g ck left before), refl)
  placed_last (b ∷ bs) a left before w at e m =
      (ap (count e) (last_taken g ck left before), rw (sym (taken_by_depth left before a b w.0 at e m) ∙ w.1 e m))

  placed-more : (b : ℕ) (bs : List ℕ) (a : ℕ) (left before : List ℕ) (rest : List Row) → a ≤ b
      → Placed g bs b (left_next g left before (Some (b - a))) (before_next g left before (Some (b - a))) rest
      → Placed g (b ∷ bs) a left before (row a (Some b) (split g left before (Some (b - a))) ∷ rest)
  placed-more b bs a left before rest le ih at e m = by_test (depth g e ≤? b)
      (λ t. rw t (low_taken g left before (Some (b - a)) e (taken_by_depth left before a b le at e m ∙ t), refl))
      (λ f. let same : count e (left_next g left before (Some (b - a))) ≡ count e left =
      omega (
        arith,
        high_left g left before (Some (b - a)) e (taken_by_depth left before a b le at e m ∙ f),
        count_removes left (split g left before (Some (b - a))).taken e,
      ) in
      let w = ih (leveled_next left before a b le at) e (omega (arith, m, same)) in
      rw f (w.0 ∙ same, ap suc w.1))

  pub stages-placed : (bs : List ℕ) (a : ℕ) (left before : List ℕ) → Climbs before a bs
      → Placed g bs a left before (stages_from g a left before bs)
  stages-placed = stages_by g ck (Placed g) placed_last (λ b bs a left before rest le n ih. placed-more b bs a left before rest le ih)
