-- Fanouts: each pin's gates in falling order, each as often as it reads the pin; where each pin's list begins; two entries for each gate in all.
use mathlib.Core.Path.{◌≡◌, refl, sym, ◌∙◌, ap, subst}
use mathlib.Core.List.{List, [], ◌∷◌, ◌++◌, map, append-nil}
use Prim.Native.Nat.{ℕ, zero, suc, ◌+◌, ◌-◌, ◌*◌, ◌≤◌, ◌<◌}
use native.Mathlib.Omega.{arith}
use lib.ListN.{length, get_or, take, length-append, length-map, get_or-append}
use lib.Seq.{get_or-append-add, take-suc, take_all}
use borrow.Author.Tests.{ltb-true, ltb-false, lt-ltb, le-ltb, eqb-true, eqb-false}
use Rattle.std.specs.Prelude.{◌==◌}
use Rattle.laws.specs.Tests.{◌<?◌, one}
use Rattle.laws.specs.Lists.{count, member, keep, flat, upto}
use Rattle.laws.proofs.Tests.{by_test, one_eq, one_ne}
use Rattle.laws.proofs.Bags.{member_true, member_false, count-append, of_append, at_head, here, there, of_flat, flat-joined}
use Rattle.laws.proofs.Ranges.{length-map-upto, map-upto}
use Rattle.rules.specs.declared.Driver.{Driver}
use Rattle.rules.specs.declared.Driver.TheVariants.{And, Port, Flag, Dff, Ram, Constant}
use Rattle.rules.specs.Netlist.{Netlist}
use Rattle.rules.specs.Graph.{pin_of, driver_at, operands}
use Rattle.rules.specs.Build.{down_from, reads_by, gates_reading, fanouts_below, fanouts, fanout_starts, is_gate, gate_count, graph_of}
use Rattle.rules.specs.Refusals.{Accepted}
use Rattle.rules.proofs.Tables.{clash}
use Rattle.builds.proofs.Sound.{Sound, driver_inside}
use Rattle.builds.proofs.Passes12.{built_sound}
use Rattle.builds.proofs.Tallies.{gates_snoc}

-- the numbers below k, downward
pub in_down : (k x : ℕ) → 0 < count x (down_from k) → x < k
in_down zero x m = absurd (omega arith)
in_down (suc k) x m = at_head x k (down_from k) m (λ e. omega arith) (λ m'. omega (arith, in_down k x m'))

-- ---- one gate, one pin
-- a gate stands in a pin's list as often as it reads the pin
reads-length : (p u : ℕ) (l : List ℕ) → length (map (λ o. u) (keep (λ o. o == p) l)) ≡ count p l
reads-length p u [] = refl
reads-length p u (o ∷ l) = by_test (o == p)
    (λ t. rw t (omega (arith, one_eq p o (sym (eqb-true o p t)), reads-length p u l)))
    (λ f. rw f (omega (arith, one_ne p o (λ e. eqb-false o p f (sym e)), reads-length p u l)))

copies : (u : ℕ) (l : List ℕ) → count u (map (λ o. u) l) ≡ length l
copies u [] = refl
copies u (o ∷ l) = omega (arith, one_eq u u refl, copies u l)

no_copies : (u x : ℕ) (l : List ℕ) → (x ≡ u → ⊥) → count x (map (λ o. u) l) ≡ 0
no_copies u x [] ne = refl
no_copies u x (o ∷ l) ne = omega (arith, one_ne x u ne, no_copies u x l ne)

reads-own : (p u : ℕ) (d : Driver) → count u (reads_by p u d) ≡ count p (operands d)
reads-own p u d = copies u (keep (λ o. o == p) (operands d)) ∙ sym (length-map (keep (λ o. o == p) (operands d)) (λ o. u)) ∙ reads-length p u (operands d)

reads_other : (p u x : ℕ) (d : Driver) → (x ≡ u → ⊥) → count x (reads_by p u d) ≡ 0
reads_other p u x d ne = no_copies u x (keep (λ o. o == p) (operands d)) ne

-- ---- falling order
abbrev pub InOrder : List ℕ → Type 0
InOrder [] = Unit {0}
InOrder (x ∷ l) = ((y : ℕ) → 0 < count y l → y ≤ x) × InOrder l

joined-order : (u : ℕ) (l s : List ℕ) → InOrder s → ((y : ℕ) → 0 < count y s → y ≤ u) → InOrder (map (λ o. u) l ++ s)
joined-order u [] s f h = f
joined-order u (o ∷ l) s f h = (
  (λ y m. of_append y (map (λ o'. u) l) s m
      (λ w. by_test (y == u) (λ t. omega (arith, eqb-true y u t)) (λ g. absurd (omega (arith, w, no_copies u y l (eqb-false y u g)))))
      (λ w. h y w)),
  joined-order u l s f h,
)

module _ (ds : List Driver) where
  abbrev by : ℕ → ℕ → List ℕ
  by p u = reads_by p u (driver_at ds u)

  below_in : (p k x : ℕ) → 0 < count x (flat (by p) (down_from k)) → x < k
  below_in p k x m = of_flat (by p) x (down_from k) m (λ u mu w. by_test (x == u)
      (λ t. omega (arith, eqb-true x u t, in_down k u mu))
      (λ f. absurd (omega (arith, w, reads_other p u x (driver_at ds u) (eqb-false x u f)))))

  order_by : (p k : ℕ) → InOrder (flat (by p) (down_from k))
  order_by p zero = tt
  order_by p (suc k) = joined-order k (keep (λ o. o == p) (operands (driver_at ds k))) (flat (by p) (down_from k)) (order_by p k) (λ y m. omega (arith, below_in p k y m))

  pub gates_order : (p : ℕ) → InOrder (gates_reading ds p)
  gates_order p = order_by p (length ds)

  reads_by_lem : (p k x : ℕ) → x < k → count x (flat (by p) (down_from k)) ≡ count p (operands (driver_at ds x))
  reads_by_lem p zero x h = absurd (omega arith)
  reads_by_lem p (suc k) x h = by_test (x == k)
      (λ t. let e = eqb-true x k t in
      subst (λ (y : ℕ). count y (by p k ++ flat (by p) (down_from k)) ≡ count p (operands (driver_at ds y))) (sym e)
      (omega (arith, count-append k (by p k) (flat (by p) (down_from k)), reads-own p k (driver_at ds k), none k)))
      (λ f. omega (arith, count-append x (by p k) (flat (by p) (down_from k)), reads_other p k x (driver_at ds k) (eqb-false x k f), reads_by_lem p k x (omega (arith, eqb-false x k f))))
    where
      none : (y : ℕ) → count y (flat (by p) (down_from y)) ≡ 0
      none y = by_test (member y (flat (by p) (down_from y)))
          (λ t. absurd (omega (arith, below_in p y y (member_true y (flat (by p) (down_from y)) t))))
          (λ f. member_false y (flat (by p) (down_from y)) f)

  -- gate u stands in p's list as often as it reads p
  pub gates_count : (p u : ℕ) → u < length ds → count u (gates_reading ds p) ≡ count p (operands (driver_at ds u))
  gates_count p u h = reads_by_lem p (length ds) u h

  -- ---- where each pin's list begins
  pub starts_length : length (fanout_starts ds) ≡ length ds + 1
  starts_length = length-map-upto (λ p. length (fanouts_below ds p)) (length ds + 1)

  pub start_at_lem : (p : ℕ) → p ≤ length ds → get_or (fanout_starts ds) p 0 ≡ length (fanouts_below ds p)
  start_at_lem p h = map-upto (λ q. length (fanouts_below ds q)) 0 (length ds + 1) p (omega arith)

  pub below_more : (p : ℕ) → fanouts_below ds (suc p) ≡ fanouts_below ds p ++ gates_reading ds p
  below_more p = flat-joined (gates_reading ds) (upto p) (p ∷ []) ∙ ap (λ (l : List ℕ). fanouts_below ds p ++ l) (append-nil (gates_reading ds p))

  pub below_length : (p : ℕ) → length (fanouts_below ds (suc p)) ≡ length (fanouts_below ds p) + length (gates_reading ds p)
  below_length p = ap length (below_more p) ∙ length-append (fanouts_below ds p) (gates_reading ds p)

  pub below_rise : (p k : ℕ) → length (fanouts_below ds p) ≤ length (fanouts_below ds (k + p))
  below_rise p zero = let e : 0 + p ≡ p = omega arith in rw e (omega arith)
  below_rise p (suc k) = let e : suc k + p ≡ suc (k + p) = omega arith in rw e (omega (arith, below_rise p k, below_length (k + p)))

  -- an entry of a pin's list, in the lists joined
  entry_at : (p i k : ℕ) → i < length (gates_reading ds p) → get_or (fanouts_below ds (k + suc p)) (length (fanouts_below ds p) + i) 0 ≡ get_or (gates_reading ds p) i 0
  entry_at p i zero h =
      let e : 0 + suc p ≡ suc p = omega arith in
      ap (λ (j : ℕ). get_or (fanouts_below ds j) (length (fanouts_below ds p) + i) 0) e
      ∙ ap (λ (l : List ℕ). get_or l (length (fanouts_below ds p) + i) 0) (below_more p)
      ∙ get_or-append-add (fanouts_below ds p) (gates_reading ds p) i 0
  entry_at p i (suc k) h =
      let e : suc k + suc p ≡ suc (k + suc p) = omega arith in
      ap (λ (j : ℕ). get_or (fanouts_below ds j) (length (fanouts_below ds p) + i) 0) e
      ∙ ap (λ (l : List ℕ). get_or l (length (fanouts_below ds p) + i) 0) (below_more (k + suc p))
      ∙ get_or-append (fanouts_below ds (k + suc p)) (gates_reading ds (k + suc p)) 0 (length (fanouts_below ds p) + i) (omega (arith, below_rise (suc p) k, below_length p))
      ∙ entry_at p i k h

  pub fanout_at : (p i : ℕ) → p < length ds → i < length (gates_reading ds p) → get_or (fanouts ds) (length (fanouts_below ds p) + i) 0 ≡ get_or (gates_reading ds p) i 0
  fanout_at p i h l =
      let e : length ds ≡ (length ds - suc p) + suc p = omega arith in
      ap (λ (j : ℕ). get_or (fanouts_below ds j) (length (fanouts_below ds p) + i) 0) e ∙ entry_at p i (length ds - suc p) l

  -- ---- how many there are
  -- all operands of the pins below k
  abbrev reads : ℕ → List ℕ
  reads k = flat (λ u. operands (driver_at ds u)) (down_from k)

  reads_of : (p k : ℕ) → length (flat (by p) (down_from k)) ≡ count p (reads k)
  reads_of p zero = refl
  reads_of p (suc k) = omega (
    arith,
    length-append (by p k) (flat (by p) (down_from k)),
    reads-length p k (operands (driver_at ds k)),
    count-append p (operands (driver_at ds k)) (reads k),
    reads_of p k,
  )

  -- the members of a list below m, one number at a time
  split_below : (m : ℕ) (l : List ℕ) → length (keep (λ o. o <? suc m) l) ≡ length (keep (λ o. o <? m) l) + count m l
  split_below m [] = refl
  split_below m (o ∷ l) = by_test (o <? m)
      (λ t. let h = ltb-true o m t in rw (t, lt-ltb o (suc m) (omega arith)) (omega (arith, one_ne m o (λ e. omega arith), split_below m l)))
      (λ f. let h = ltb-false o m f in by_test (o == m)
      (λ t. rw (f, lt-ltb o (suc m) (omega (arith, eqb-true o m t))) (omega (arith, one_eq m o (sym (eqb-true o m t)), split_below m l)))
      (λ g. rw (f, le-ltb o (suc m) (omega (arith, eqb-false o m g))) (omega (arith, one_ne m o (λ e. eqb-false o m g (sym e)), split_below m l))))

  none_below : (l : List ℕ) → length (keep (λ o. o <? 0) l) ≡ 0
  none_below [] = refl
  none_below (o ∷ l) = rw (le-ltb o 0 (omega arith)) (none_below l)

  below_is : (m : ℕ) → length (fanouts_below ds m) ≡ length (keep (λ o. o <? m) (reads (length ds)))
  below_is zero = sym (none_below (reads (length ds)))
  below_is (suc m) = omega (arith, below_length m, below_is m, reads_of m (length ds), split_below m (reads (length ds)))

  -- two operands a gate
  two_each : (d : Driver) → length (operands d) ≡ 2 * one (is_gate d)
  two_each (And a b) = refl
  two_each (Port q) = refl
  two_each (Flag q e) = refl
  two_each (Dff c) = refl
  two_each (Ram c) = refl
  two_each Constant = refl

  two_all : (k : ℕ) → k ≤ length ds → length (reads k) ≡ 2 * gate_count (take k ds)
  two_all zero h = refl
  two_all (suc k) h = omega (
    arith,
    length-append (operands (driver_at ds k)) (reads k),
    two_each (driver_at ds k),
    two_all k (omega arith),
    ap gate_count (take-suc ds k Constant (omega arith)),
    gates_snoc (take k ds) (driver_at ds k),
  )

  -- where every operand is below, all are counted
  keep_all : (m : ℕ) (l : List ℕ) → ((o : ℕ) → 0 < count o l → o < m) → length (keep (λ o. o <? m) l) ≡ length l
  keep_all m [] h = refl
  keep_all m (o ∷ l) h = rw (lt-ltb o m (h o (here o l))) (ap suc (keep_all m l (λ x w. h x (there x o l w))))

  module _ (s : Sound ds) where
    operand_below : (u o : ℕ) (d : Driver) → driver_at ds u ≡ d → 0 < count o (operands d) → o < length ds
    operand_below u o (And a b) e m =
        let w = s.gates u a.word b.word e in
        let h = driver_inside ds u (And a b) e (λ e'. clash (cc)) in
        at_head o (pin_of a.word) (pin_of b.word ∷ []) m (λ q. omega (arith, w.1)) (λ m'. at_head o (pin_of b.word) [] m' (λ q. omega (arith, w.3)) (λ m''. absurd (omega arith)))
    operand_below u o (Port q) e m = absurd (omega arith)
    operand_below u o (Flag q d) e m = absurd (omega arith)
    operand_below u o (Dff c) e m = absurd (omega arith)
    operand_below u o (Ram c) e m = absurd (omega arith)
    operand_below u o Constant e m = absurd (omega arith)

    pub fanouts-length : length (fanouts ds) ≡ 2 * gate_count ds
    fanouts-length = below_is (length ds)
        ∙ keep_all (length ds) (reads (length ds)) (λ o m. of_flat (λ u. operands (driver_at ds u)) o (down_from (length ds)) m (λ u mu w. operand_below u o (driver_at ds u) refl w))
        ∙ two_all (length ds) (omega arith) ∙ ap (λ (l : List Driver). 2 * gate_count l) (take_all (length ds) ds (omega arith))

-- of the graph that is built
pub built_fanouts : (n : Netlist) → Accepted n → length (fanouts (graph_of n).drivers) ≡ 2 * gate_count (graph_of n).drivers
built_fanouts n acc = fanouts-length (graph_of n).drivers (built_sound n acc)
