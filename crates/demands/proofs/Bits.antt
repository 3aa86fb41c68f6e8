-- Worked in order, the stages give each literal its bit.
use Rattle.std.specs.Prelude.{Option, None, Some}
use mathlib.Core.Path.{◌≡◌, refl, sym, ◌∙◌, ap, ap₂, subst}
use mathlib.Core.Bool.{Bool}
use mathlib.Core.List.{List, [], ◌∷◌, ◌++◌, map}
use Prim.Native.Nat.{ℕ, zero, suc, ◌-◌, ◌<◌}
use native.Mathlib.Omega.{arith}
use borrow.Author.Tests.{ltb-false}
use Rattle.laws.specs.Tests.{◌<?◌}
use Rattle.laws.specs.Lists.{count, member}
use Rattle.laws.proofs.Tests.{by_test}
use Rattle.laws.proofs.Bags.{member_true, member_false, count-append, here, there, count-keep, map_same, map-append, in_map}
use Rattle.rules.specs.declared.Driver.{Driver}
use Rattle.rules.specs.declared.Driver.TheVariants.{And, Port, Flag, Dff, Ram, Constant}
use Rattle.rules.specs.Graph.{pin_of, operands, Graph, driver_of}
use Rattle.rules.specs.Stages.{reads, order, split, Row, stages_from}
use Rattle.rules.specs.Work.{driver_bit, bit_by, bit, lit_bit, turned_o, driver_work, work_by, work, source_bit, source_bits, Kept, look, kept, Answer, answers, worked}
use Rattle.rules.specs.Tables.{all_taken}
use Rattle.cuts.specs.Checked.{Checked}
use Rattle.cuts.proofs.Operands.{operands-below, back_go}
use Rattle.cuts.proofs.Order.{in_order, order_closed}
use Rattle.cuts.proofs.Exact.{handed_visited}
use Rattle.cuts.proofs.Next.{left_next, taken_le, sources_handed}
use Rattle.cuts.proofs.Stages.{Climbs, stages_by}
use Rattle.demands.specs.Demand3.{right}
use Rattle.demands.proofs.Kept.{pins, look-left, look-right, look_none, look-kept, pins_kept}

-- a pin is known with its bit, or it is not known, was not handed on, and is no source that is visited
pub data Known (g : Graph) (src : ℕ → Bool) (known : ℕ → Option Bool) (left before : List ℕ) (u : ℕ) : Type 0 where
  has : known u ≡ Some (bit g src u) → Known g src known left before u
  lacks : known u ≡ None → count u before ≡ 0 → (0 < count u (order g left before) → source_bits g src u ≡ None) → Known g src known left before u

abbrev pub Ready : Graph → (ℕ → Bool) → (ℕ → Option Bool) → List ℕ → List ℕ → Type 0
Ready g src known left before = (u : ℕ) → Known g src known left before u

-- what was kept has the bits of the pins handed on
abbrev pub Holds : Graph → (ℕ → Bool) → List Kept → List ℕ → Type 0
Holds g src mem before = (u : ℕ) → (count u (pins mem) ≡ count u before) × (0 < count u before → look mem u ≡ Some (bit g src u))

-- a stage that is ready, and all after it, answer right
abbrev pub Right : Graph → (ℕ → Bool) → List ℕ → ℕ → List ℕ → List ℕ → List Row → Type 0
Right g src bs a left before rows = (known : ℕ → Option Bool) (mem : List Kept) → Ready g src known left before → Holds g src mem before
    → worked g known mem rows ≡ right g src (all_taken rows)

-- a gate reads both its operands
first_operand : (p q : ℕ) → 0 < count p (p ∷ q ∷ [])
first_operand p q = here p (q ∷ [])

second_operand : (p q : ℕ) → 0 < count q (p ∷ q ∷ [])
second_operand p q = there q p (q ∷ []) (here q [])

module _ (g : Graph) (ck : Checked g) (src : ℕ → Bool) where
  -- ---- the bits of the graph
  bit-same : (h k : ℕ → Bool) (u : ℕ) (dr : Driver) → ((o : ℕ) → 0 < count o (operands dr) → h o ≡ k o)
      → driver_bit src h u dr ≡ driver_bit src k u dr
  bit-same h k u (And a b) e =
      rw (e (pin_of a.word) (first_operand (pin_of a.word) (pin_of b.word)), e (pin_of b.word) (second_operand (pin_of a.word) (pin_of b.word)))
  bit-same h k u (Port q) e = refl
  bit-same h k u (Flag q f) e = refl
  bit-same h k u (Dff c) e = refl
  bit-same h k u (Ram c) e = refl
  bit-same h k u Constant e = refl

  bit_fuel : (f f' u : ℕ) → u < f → u < f' → bit_by g src f u ≡ bit_by g src f' u
  bit_fuel zero f' u h k = absurd (omega arith)
  bit_fuel (suc f) zero u h k = absurd (omega arith)
  bit_fuel (suc f) (suc f') u h k = bit-same (bit_by g src f) (bit_by g src f') u (driver_of g u)
      (λ o m. bit_fuel f f' o (omega (arith, operands-below g ck u o m)) (omega (arith, operands-below g ck u o m)))

  pub bit_is : (u : ℕ) → bit g src u ≡ driver_bit src (bit g src) u (driver_of g u)
  bit_is u = bit-same (bit_by g src u) (bit g src) u (driver_of g u) (λ o m. bit_fuel u (suc o) o (operands-below g ck u o m) (omega arith))

  by_known : {P : Type 0} (known : ℕ → Option Bool) (left before : List ℕ) (u : ℕ) → Known g src known left before u
      → (known u ≡ Some (bit g src u) → P)
      → (known u ≡ None → count u before ≡ 0 → (0 < count u (order g left before) → source_bits g src u ≡ None) → P) → P
  by_known known left before u (has e) p q = p e
  by_known known left before u (lacks e n s) p q = q e n s

  -- a stage that is ready gives each pin that it visits its bit
  module _ (known : ℕ → Option Bool) (left before : List ℕ) (ready : Ready g src known left before) where
    driver_right : (f u : ℕ) (dr : Driver) → source_bit src u dr ≡ None
        → ((o : ℕ) → 0 < count o (operands dr) → work_by g known f o ≡ Some (bit g src o))
        → driver_work (work_by g known f) dr ≡ Some (driver_bit src (bit g src) u dr)
    driver_right f u (And a b) n ih =
        rw (ih (pin_of a.word) (first_operand (pin_of a.word) (pin_of b.word)), ih (pin_of b.word) (second_operand (pin_of a.word) (pin_of b.word)))
    driver_right f u (Port q) n ih = let z : ◌≡◌ {A = ℕ} 0 1 = cc in absurd (omega arith)
    driver_right f u (Flag q e) n ih = let z : ◌≡◌ {A = ℕ} 0 1 = cc in absurd (omega arith)
    driver_right f u (Dff c) n ih = let z : ◌≡◌ {A = ℕ} 0 1 = cc in absurd (omega arith)
    driver_right f u (Ram c) n ih = let z : ◌≡◌ {A = ℕ} 0 1 = cc in absurd (omega arith)
    driver_right f u Constant n ih = refl

    pub work-right : (f u : ℕ) → u < f → 0 < count u (order g left before) → work_by g known f u ≡ Some (bit g src u)
    work-right zero u h m = absurd (omega arith)
    work-right (suc f) u h m = by_known known left before u (ready u)
        (λ e. rw e)
        (λ e n s. rw e (driver_right f u (driver_of g u) (s m)
        (λ o mo. work-right f o (omega (arith, operands-below g ck u o mo)) (order_closed g ck left before u o m (rw (back_go g before u n) mo)))
        ∙ ap Some (sym (bit_is u))))

    work_zero : work g known 0 ≡ Some (bit g src 0)
    work_zero = by_known known left before 0 (ready 0) (λ e. rw e) (λ e n s. rw e (rw ck.zero_constant))

    lit_right : (e l : ℕ) → 0 < count e left → 0 < count l (reads g e) → turned_o l (work g known (pin_of l)) ≡ Some (lit_bit g src l)
    lit_right e l me ml = ap (turned_o l) (by_test (0 <? pin_of l)
        (λ t. work-right (suc (pin_of l)) (pin_of l) (omega arith) (in_order g ck left before e (pin_of l) me
        (rw (count-keep (λ p. 0 <? p) (pin_of l) (map pin_of (reads g e)) t) (in_map pin_of l (reads g e) ml))))
        (λ f. subst (λ (z : ℕ). work g known z ≡ Some (bit g src z)) (omega (arith, ltb-false 0 (pin_of l) f)) work_zero))

    pub answers-right : (es : List ℕ) → ((e : ℕ) → 0 < count e es → 0 < count e left) → answers g (work g known) es ≡ right g src es
    answers-right es h = map_same _ _ es (λ e m. ap (λ (vs : List (Option Bool)). record { endpoint = e; values = vs })
        (map_same _ _ (reads g e) (λ l ml. lit_right e l (h e m) ml)))

  -- ---- from a stage to the next
  source_operands : (u : ℕ) (dr : Driver) (b : Bool) → source_bit src u dr ≡ Some b → operands dr ≡ []
  source_operands u (And x y) b e = let z : ◌≡◌ {A = ℕ} 0 1 = cc in absurd (omega arith)
  source_operands u (Port q) b e = refl
  source_operands u (Flag q f) b e = refl
  source_operands u (Dff c) b e = refl
  source_operands u (Ram c) b e = refl
  source_operands u Constant b e = refl

  module _ (known : ℕ → Option Bool) (left before : List ℕ) (d : Option ℕ) (ready : Ready g src known left before)
      (mem : List Kept) (holds : Holds g src mem before) where
    abbrev hs : List ℕ
    hs = (split g left before d).handed

    abbrev mem' : List Kept
    mem' = mem ++ kept (work g known) hs

    pub holds_next : Holds g src mem' (before ++ hs)
    holds_next u = (counts, found)
      where
        counts : count u (pins mem') ≡ count u (before ++ hs)
        counts = rw (map-append (λ (r : Kept). r.pin) mem (kept (work g known) hs), pins_kept (work g known) hs)
            (omega (arith, count-append u (pins mem) hs, count-append u before hs, (holds u).0))

        found : 0 < count u (before ++ hs) → look mem' u ≡ Some (bit g src u)
        found m = by_test (member u before)
            (λ t. look-left mem (kept (work g known) hs) u (bit g src u) ((holds u).1 (member_true u before t)))
            (λ n. let m' : 0 < count u hs = omega (arith, count-append u before hs, member_false u before n) in
            look-right mem (kept (work g known) hs) u (omega (arith, (holds u).0, member_false u before n))
            ∙ look-kept (work g known) hs u m'
            ∙ work-right known left before ready (suc u) u (omega arith) (handed_visited g left before d u m'))

    pub ready_next : Ready g src (look mem') (left_next g left before d) (before ++ hs)
    ready_next u = by_test (member u (before ++ hs))
        (λ t. has ((holds_next u).1 (member_true u (before ++ hs) t)))
        (λ n. lacks (look_none mem' u (omega (arith, (holds_next u).0, member_false u (before ++ hs) n))) (member_false u (before ++ hs) n)
        (λ m. not_source (source_bits g src u) refl m (member_false u (before ++ hs) n)))
      where
        not_source : (s : Option Bool) → source_bits g src u ≡ s → 0 < count u (order g (left_next g left before d) (before ++ hs))
            → count u (before ++ hs) ≡ 0 → source_bits g src u ≡ None
        not_source None e m n = e
        not_source (Some b) e m n = absurd (omega (arith, n, sources_handed g left before d ck u m (source_operands u (driver_of g u) b e)))

  -- ---- all stages
  pub stages-right : (bs : List ℕ) (a : ℕ) (left before : List ℕ) → Climbs before a bs
      → Right g src bs a left before (stages_from g a left before bs)
  stages-right = stages_by g ck (Right g src)
      (λ bs a left before w known mem ready holds. rw (stage-right left before None known ready) (sym (map-append _ (split g left before None).taken [])))
      (λ b bs a left before rest le n ih known mem ready holds. ap₂ (λ (x y : List Answer). x ++ y)
      (stage-right left before (Some (b - a)) known ready)
      (ih (look (mem ++ kept (work g known) (split g left before (Some (b - a))).handed))
      (mem ++ kept (work g known) (split g left before (Some (b - a))).handed)
      (ready_next known left before (Some (b - a)) ready mem holds) (holds_next known left before (Some (b - a)) ready mem holds))
      ∙ sym (map-append _ (split g left before (Some (b - a))).taken (all_taken rest)))
    where
      stage-right : (left before : List ℕ) (d : Option ℕ) (known : ℕ → Option Bool) → Ready g src known left before
          → answers g (work g known) (split g left before d).taken ≡ right g src (split g left before d).taken
      stage-right left before d known ready = answers-right known left before ready (split g left before d).taken
          (λ e m. omega (arith, m, taken_le g left before d e))

  -- ---- the first stage
  pub ready_first : (left : List ℕ) → Ready g src (source_bits g src) left []
  ready_first left u = by_bit (source_bits g src u) refl
    where
      source_bit_lem : (dr : Driver) (b : Bool) → source_bit src u dr ≡ Some b → Some b ≡ Some (driver_bit src (bit g src) u dr)
      source_bit_lem (And x y) b e = let z : ◌≡◌ {A = ℕ} 0 1 = cc in absurd (omega arith)
      source_bit_lem (Port q) b e = sym e
      source_bit_lem (Flag q f) b e = sym e
      source_bit_lem (Dff c) b e = sym e
      source_bit_lem (Ram c) b e = sym e
      source_bit_lem Constant b e = let z : ◌≡◌ {A = ℕ} 0 1 = cc in absurd (omega arith)

      by_bit : (s : Option Bool) → source_bits g src u ≡ s → Known g src (source_bits g src) left [] u
      by_bit None e = lacks e refl (λ m. e)
      by_bit (Some b) e = has (e ∙ source_bit_lem (driver_of g u) b e ∙ ap Some (sym (bit_is u)))

  pub holds_first : Holds g src [] []
  holds_first u = (refl, λ m. absurd (omega arith))
