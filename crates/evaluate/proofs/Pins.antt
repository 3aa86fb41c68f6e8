-- The bit of a pin, by the words of its driver: a gate's from those of its operands, a source's from its word.
use mathlib.Core.Path.{◌≡◌, refl, ap, ◌∙◌}
use mathlib.Core.Bool.{Bool, true, false, not, ◌&&◌}
use mathlib.Core.List.{List, [], ◌∷◌}
use Prim.Native.Nat.{ℕ, zero, suc, ◌+◌, ◌-◌, ◌*◌, ◌%◌, ◌<◌, ◌≤◌}
use native.Mathlib.Omega.{arith}
use borrow.Author.Tests.{eqb-true, eqb-false, ne_eqb}
use lib.ListN.{get_or}
use Rattle.std.specs.Prelude.{Option, ◌==◌}
use Rattle.laws.specs.Tests.{one}
use Rattle.laws.specs.Lists.{count}
use Rattle.laws.proofs.Tests.{by_test, true≢false}
use Rattle.laws.proofs.Bags.{here, there}
use Rattle.laws.proofs.Ranges.{of_upto}
use Rattle.rules.specs.declared.Driver.{Driver}
use Rattle.rules.specs.declared.Driver.TheVariants.{And, Port, Flag, Dff, Ram, Constant}
use Rattle.rules.specs.Graph.{Graph, pin_of, operands, driver_of}
use Rattle.rules.specs.Work.{turned, driver_bit, bit_by, bit}
use Rattle.rules.specs.Tables.{decode, decode_at, unused, flag_in, driver_or}
use Rattle.rules.specs.Refusals.{driver_fits, drivers_fit}
use Rattle.rules.specs.Answers.{drivers_graph, source_of}
use Rattle.walk.specs.State.{tag_of, first_of, second_of}
use Rattle.walk.proofs.Leads.{goes_below, driver_in, says-gate}
use Rattle.evaluate.specs.Bits.{pin_bit}

-- ---- where operands are smaller, how deep an evaluation may go does not matter
driver_same : (src h h' : ℕ → Bool) (u : ℕ) (d : Driver) → ((o : ℕ) → 0 < count o (operands d) → h o ≡ h' o) → driver_bit src h u d ≡ driver_bit src h' u d
driver_same src h h' u (And a b) e =
    let p : ℕ = pin_of a.word in
    let q : ℕ = pin_of b.word in
    λ i. turned a.word (e p (here p (q ∷ [])) i) && turned b.word (e q (there q p (q ∷ []) (here q [])) i)
driver_same src h h' u (Port q) e = refl
driver_same src h h' u (Flag q f) e = refl
driver_same src h h' u (Dff c) e = refl
driver_same src h h' u (Ram c) e = refl
driver_same src h h' u Constant e = refl

module _ (g : Graph) (src : ℕ → Bool) (below : (u o : ℕ) → 0 < count o (operands (driver_of g u)) → o < u) where
  bit_fuel : (f f' u : ℕ) → u < f → u < f' → bit_by g src f u ≡ bit_by g src f' u
  bit_fuel zero f' u h k = absurd (omega arith)
  bit_fuel (suc f) zero u h k = absurd (omega arith)
  bit_fuel (suc f) (suc f') u h k = driver_same src (bit_by g src f) (bit_by g src f') u (driver_of g u)
      (λ o m. let l = below u o m in bit_fuel f f' o (omega arith) (omega arith))

  pub bit_is : (u : ℕ) → bit g src u ≡ driver_bit src (bit g src) u (driver_of g u)
  bit_is u = driver_same src (bit_by g src u) (bit g src) u (driver_of g u) (λ o m. bit_fuel u (suc o) o (below u o m) (omega arith))

-- ---- three words that fit and are neither a constant's nor a gate's are a source's
module _ (src h : ℕ → Bool) (u : ℕ) where
  abbrev said : Option Driver → Bool
  said d = driver_bit src h u (driver_or d)

  unused_source : (b : ℕ) (d : Driver) → driver_bit src h u d ≡ src u → driver_fits u (unused b d) ≡ true → said (unused b d) ≡ src u
  unused_source b d e f = by_test (b == 0) (λ t. rw t e) (λ n. true≢false false (rw n at f) refl)

  flag_source : (a b : ℕ) → driver_fits u (flag_in a b) ≡ true → said (flag_in a b) ≡ src u
  flag_source a b f = by_test (b == 0)
      (λ t. rw t)
      (λ n. by_test (b == 1) (λ t. rw (n, t)) (λ k. true≢false false (rw (n, k) at f) refl))

  past_source : (t a b : ℕ) → driver_fits u (decode (suc (suc (suc (suc (suc (suc t)))))) a b) ≡ true → said (decode (suc (suc (suc (suc (suc (suc t)))))) a b) ≡ src u
  past_source t a b f = true≢false false (rw (
    ne_eqb s 0 (λ z. omega (arith, z)),
    ne_eqb s 1 (λ z. omega (arith, z)),
    ne_eqb s 2 (λ z. omega (arith, z)),
    ne_eqb s 3 (λ z. omega (arith, z)),
    ne_eqb s 4 (λ z. omega (arith, z)),
    ne_eqb s 5 (λ z. omega (arith, z)),
  ) at f) refl
    where
      s : ℕ
      s = suc (suc (suc (suc (suc (suc t)))))

  source_says : (t a b : ℕ) → (t ≡ 0 → ⊥) → (t ≡ 1 → ⊥) → driver_fits u (decode t a b) ≡ true → said (decode t a b) ≡ src u
  source_says zero a b n k f = absurd (n refl)
  source_says (suc zero) a b n k f = absurd (k refl)
  source_says (suc (suc zero)) a b n k f = unused_source b (Port a) refl f
  source_says (suc (suc (suc zero))) a b n k f = flag_source a b f
  source_says (suc (suc (suc (suc zero)))) a b n k f = unused_source b (Dff a) refl f
  source_says (suc (suc (suc (suc (suc zero))))) a b n k f = unused_source b (Ram a) refl f
  source_says (suc (suc (suc (suc (suc (suc t)))))) a b n k f = past_source t a b f

  constant_says : (a b : ℕ) → said (decode 0 a b) ≡ false
  constant_says a b = by_test (a == 0) (λ t. by_test (b == 0) (λ y. rw (t, y)) (λ f. rw (t, f))) (λ f. rw f)

-- ---- a table of m pins, pin 0 with them
module _ (ws sources : List ℕ) (m : ℕ) (low : 1 ≤ m) (fits : drivers_fit ws (m - 1) ≡ true) (u : ℕ) (l : u < m) where
  abbrev src : ℕ → Bool
  src = source_of sources

  abbrev h : ℕ → Bool
  h = pin_bit ws sources m

  bit_said : pin_bit ws sources m u ≡ driver_bit src h u (driver_or (decode_at ws u))
  bit_said = bit_is (drivers_graph (m - 1) ws) src (goes_below ws m low fits []) u ∙ ap (driver_bit src h u) (driver_in ws m low u l)

  pub bit-gate : tag_of ws u ≡ 1
      → pin_bit ws sources m u ≡ (turned (get_or ws (3 * u + 1) 0) (pin_bit ws sources m (first_of ws u)) && turned (get_or ws (3 * u + 2) 0) (pin_bit ws sources m (second_of ws u)))
  bit-gate e = bit_said ∙ ap (λ (d : Option Driver). driver_bit src h u (driver_or d)) (says-gate ws u e)

  pub bit_constant : tag_of ws u ≡ 0 → pin_bit ws sources m u ≡ false
  unfolding decode_at
  bit_constant e = bit_said ∙ ap (λ (t : ℕ). driver_bit src h u (driver_or (decode t (get_or ws (3 * u + 1) 0) (get_or ws (3 * u + 2) 0)))) e
      ∙ constant_says src h u (get_or ws (3 * u + 1) 0) (get_or ws (3 * u + 2) 0)

  pub bit_source : (tag_of ws u ≡ 0 → ⊥) → (tag_of ws u ≡ 1 → ⊥) → pin_bit ws sources m u ≡ source_of sources u
  unfolding decode_at
  bit_source n k = bit_said ∙ source_says src h u (tag_of ws u) (get_or ws (3 * u + 1) 0) (get_or ws (3 * u + 2) 0) n k
      (of_upto (λ v. driver_fits v (decode_at ws v)) (m - 1 + 1) u fits (omega arith))

-- ---- a bit turned, as a word
pub turned_word : (l : ℕ) (b : Bool) → (one b + l % 2) % 2 ≡ one (turned l b)
turned_word l b = by_test (l % 2 == 0)
    (λ t. let e = eqb-true (l % 2) 0 t in rw (t, e) (even b))
    (λ f. let e : l % 2 ≡ 1 = omega (arith, eqb-false (l % 2) 0 f) in rw (f, e) (odd b))
  where
    even : (c : Bool) → (one c + 0) % 2 ≡ one c
    even true = refl
    even false = refl

    odd : (c : Bool) → (one c + 1) % 2 ≡ one (not c)
    odd true = refl
    odd false = refl

-- two bits joined: the first 0 gives 0, else the second
pub and_word_lem : (x y : ℕ) (b c : Bool) → x ≡ one b → y ≡ one c → x ≡ 0 → 0 ≡ one (b && c)
and_word_lem x y true c e f z = absurd (omega arith)
and_word_lem x y false c e f z = refl

pub and_second : (x y : ℕ) (b c : Bool) → x ≡ one b → y ≡ one c → (x ≡ 0 → ⊥) → y ≡ one (b && c)
and_second x y true c e f n = f
and_second x y false c e f n = absurd (n e)
