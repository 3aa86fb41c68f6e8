-- The table of bits, pin by pin.
use mathlib.Core.Path.{◌≡◌, sym, ap, subst, ◌∙◌}
use mathlib.Core.Bool.{Bool, ◌&&◌}
use mathlib.Core.List.{List}
use Prim.Native.Nat.{ℕ, ◌+◌, ◌*◌, ◌/◌, ◌%◌, ◌<◌, ◌≤◌}
use native.Mathlib.Omega.{arith}
use borrow.Author.Tests.{eqb-true, eqb-false}
use lib.ListN.{length, get_or, set, length-set}
use lib.Seq.{get_or-set_same, get_or-set_other}
use Rattle.std.specs.Prelude.{◌==◌}
use Rattle.laws.specs.Tests.{one}
use Rattle.laws.proofs.Tests.{by_test, one_le}
use Rattle.rules.specs.Work.{turned}
use Rattle.rules.specs.Answers.{source_of}
use Rattle.walk.specs.State.{tag_of, first_of, second_of, Operands}
use Rattle.walk.proofs.Leads.{operands_fit}
use Rattle.evaluate.specs.Bits.{pin_bit, literal_word, Filling}
use Rattle.evaluate.proofs.Pins.{bit-gate, bit_constant, bit_source, turned_word, and_word_lem, and_second}

module _ (ws sources bits : List ℕ) (u : ℕ) (g : Filling ws sources bits u) (l : u < length bits) where
  abbrev m : ℕ
  m = length bits

  -- ---- a gate's operands are below it, so their bits are in the table
  module _ (t : tag_of ws u ≡ 1) where
    fit : Operands ws m
    fit = operands_fit ws m g.low g.fits

    module _ (a : ℕ) (ea : a ≡ get_or ws (3 * u + 1) 0) where
      first_less : a / 2 < u
      first_less = omega (arith, fit.first_less u l t, ap (λ (x : ℕ). x / 2) ea)

      pub first_in : a / 2 < length bits
      first_in = omega (arith, first_less)

      pub first_low : get_or bits (a / 2) 0 ≤ 1
      first_low = rw (g.done (a / 2) first_less) (one_le (pin_bit ws sources m (a / 2)))

      first_bit : (x : ℕ) → x ≡ literal_word bits a → x ≡ one (turned (get_or ws (3 * u + 1) 0) (pin_bit ws sources m (first_of ws u)))
      first_bit x e = e ∙ ap (λ (v : ℕ). (v + a % 2) % 2) (g.done (a / 2) first_less) ∙ turned_word a (pin_bit ws sources m (a / 2))
          ∙ ap (λ (y : ℕ). one (turned y (pin_bit ws sources m (y / 2)))) ea

    module _ (b : ℕ) (eb : b ≡ get_or ws (3 * u + 2) 0) where
      second_less : b / 2 < u
      second_less = omega (arith, fit.second_less u l t, ap (λ (x : ℕ). x / 2) eb)

      pub second_in : b / 2 < length bits
      second_in = omega (arith, second_less)

      pub second_low : get_or bits (b / 2) 0 ≤ 1
      second_low = rw (g.done (b / 2) second_less) (one_le (pin_bit ws sources m (b / 2)))

      second_bit : (y : ℕ) → y ≡ literal_word bits b → y ≡ one (turned (get_or ws (3 * u + 2) 0) (pin_bit ws sources m (second_of ws u)))
      second_bit y e = e ∙ ap (λ (v : ℕ). (v + b % 2) % 2) (g.done (b / 2) second_less) ∙ turned_word b (pin_bit ws sources m (b / 2))
          ∙ ap (λ (x : ℕ). one (turned x (pin_bit ws sources m (x / 2)))) eb

    module _ (a b x y : ℕ) (ea : a ≡ get_or ws (3 * u + 1) 0) (eb : b ≡ get_or ws (3 * u + 2) 0) (ex : x ≡ literal_word bits a) (ey : y ≡ literal_word bits b) where
      abbrev one_operand : Bool
      one_operand = turned (get_or ws (3 * u + 1) 0) (pin_bit ws sources m (first_of ws u))

      abbrev other_operand : Bool
      other_operand = turned (get_or ws (3 * u + 2) 0) (pin_bit ws sources m (second_of ws u))

      gate_is : one (pin_bit ws sources m u) ≡ one (one_operand && other_operand)
      gate_is = ap one (bit-gate ws sources m g.low g.fits u l t)

      pub gate_off : x ≡ 0 → 0 ≡ one (pin_bit ws sources m u)
      gate_off z = and_word_lem x y one_operand other_operand (first_bit a ea x ex) (second_bit b eb y ey) z ∙ sym gate_is

      pub gate_second : (x ≡ 0 → ⊥) → y ≡ one (pin_bit ws sources m u)
      gate_second n = and_second x y one_operand other_operand (first_bit a ea x ex) (second_bit b eb y ey) n ∙ sym gate_is

  -- ---- the other two kinds of words
  module _ (t : ℕ) (et : t ≡ get_or ws (3 * u) 0) where
    pub tag_is : t ≡ 1 → tag_of ws u ≡ 1
    tag_is e = sym et ∙ e

    pub constant_bit : t ≡ 0 → 0 ≡ one (pin_bit ws sources m u)
    constant_bit z = sym (ap one (bit_constant ws sources m g.low g.fits u l (sym et ∙ z)))

    pub source_word : (r : ℕ) → (t ≡ 1 → ⊥) → (t ≡ 0 → ⊥) → r ≡ one (source_of sources u) → r ≡ one (pin_bit ws sources m u)
    source_word r n k e = e ∙ sym (ap one (bit_source ws sources m g.low g.fits u l (λ z. k (et ∙ z)) (λ z. n (et ∙ z))))

  -- ---- the next bit is stored
  pub fills : (v : ℕ) → v ≡ one (pin_bit ws sources (length bits) u) → Filling ws sources (set bits u v) (u + 1)
  fills v e = record {
    low = rw (length-set bits u v) g.low;
    fits = rw (length-set bits u v) g.fits;
    drivers_long = rw (length-set bits u v) g.drivers_long;
    sources_long = rw (length-set bits u v) g.sources_long;
    done = λ w k. stored w k ∙ ap (λ (n : ℕ). one (pin_bit ws sources n w)) (sym (length-set bits u v));
  }
    where
      stored : (w : ℕ) → w < u + 1 → get_or (set bits u v) w 0 ≡ one (pin_bit ws sources (length bits) w)
      stored w k = by_test (w == u)
          (λ y. let q = eqb-true w u y in
          subst (λ (n : ℕ). get_or (set bits u v) n 0 ≡ one (pin_bit ws sources (length bits) n)) (sym q) (get_or-set_same bits u v 0 l ∙ e))
          (λ f. get_or-set_other bits u w v 0 (eqb-false w u f) ∙ g.done w (omega (arith, eqb-false w u f)))

pub fills_end : (ws sources bits : List ℕ) (u n : ℕ) → Filling ws sources bits u → u ≡ n → Filling ws sources bits n
fills_end ws sources bits u n g e = rw e at g
