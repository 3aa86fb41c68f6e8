-- The answer of an evaluation.
use mathlib.Core.Path.{◌≡◌, sym, ap, ◌∙◌}
use mathlib.Core.Bool.{Bool, true}
use mathlib.Core.List.{List}
use Prim.Native.Nat.{ℕ, ◌+◌, ◌-◌}
use native.Mathlib.Omega.{arith}
use borrow.Author.Tests.{eqb-true}
use lib.ListN.{length}
use Rattle.std.specs.Prelude.{Ok, Err, ◌==◌}
use Rattle.laws.specs.Tests.{one}
use Rattle.laws.specs.Words.{zeros, filled}
use Rattle.laws.proofs.Tests.{and_l, and_r}
use Rattle.laws.proofs.Ranges.{map-upto, length-map-upto}
use Rattle.laws.proofs.Words.{zeros-length, word_past, filled_is}
use Rattle.rules.specs.declared.Refusal.{Refusal}
use Rattle.rules.specs.Refusals.{drivers_fit}
use Rattle.rules.specs.Work.{bit}
use Rattle.rules.specs.Tables.{held}
use Rattle.rules.specs.Answers.{done_of, drivers_number, drivers_graph, source_of, evaluate_number, pin_bits}
use Rattle.walk.proofs.Answered.{number_zero, held_none}
use Rattle.walk.proofs.Numbers.{Sound, number_sound}
use Rattle.evaluate.specs.Bits.{Evaluated, lengths_fit, Filling}

-- ---- bits₁ is the table after it was cleared
module _ (ws : List ℕ) (pins : ℕ) (sources bits bits₁ : List ℕ) (b : Bool)
    (z : bits₁ ≡ zeros (length bits)) (eb : b ≡ lengths_fit pins (length sources) (length bits₁)) where
  long : length bits₁ ≡ length bits
  long = ap length z ∙ zeros-length (length bits)

  number_is : drivers_number pins ws true b ≡ evaluate_number pins ws sources (length bits)
  unfolding evaluate_number
  number_is = ap (drivers_number pins ws true) (eb ∙ ap (lengths_fit pins (length sources)) long)

  pub refused : (e : Refusal) → Err e ≡ done_of (drivers_number pins ws true b) → Evaluated ws pins sources bits bits₁ (Err e)
  refused e q = record {
    answer = q ∙ ap done_of number_is;
    held_bits = z ∙ held_none (evaluate_number pins ws sources (length bits)) (pin_bits pins ws sources) (length bits) e (q ∙ ap done_of number_is);
  }

  module _ (u : Unit {0}) (y : Ok u ≡ done_of (drivers_number pins ws true b)) where
    none : drivers_number pins ws true b ≡ 0
    none = number_zero (drivers_number pins ws true b) u tt y

    sound : Sound ws pins true b
    sound = number_sound ws pins true b none

    both : lengths_fit pins (length sources) (length bits₁) ≡ true
    both = sym eb ∙ sound.lengths_fit_lem

    sources_are : length sources ≡ pins + 1
    sources_are = eqb-true (length sources) (pins + 1) (and_l (length sources == pins + 1) (length bits₁ == pins + 1) both)

    bits_are : length bits₁ ≡ pins + 1
    bits_are = eqb-true (length bits₁) (pins + 1) (and_r (length sources == pins + 1) (length bits₁ == pins + 1) both)

    pins_are : length bits₁ - 1 ≡ pins
    pins_are = omega (arith, bits_are)

    pub begins : Filling ws sources bits₁ 0
    begins =
        let s = sound in
        record {
          low = omega (arith, bits_are);
          fits = ap (drivers_fit ws) pins_are ∙ s.fits;
          drivers_long = omega (arith, bits_are, s.long);
          sources_long = sources_are ∙ sym bits_are;
          done = λ v l. absurd (omega arith);
        }

    pub accepted : (bits₂ : List ℕ) → length bits₂ ≡ length bits₁ → Filling ws sources bits₂ (length bits₁) → Evaluated ws pins sources bits bits₂ (Ok tt)
    accepted bits₂ e f = record {
      answer = ap done_of (sym none ∙ number_is);
      held_bits = full ∙ ap (filled (pin_bits pins ws sources)) (e ∙ long) ∙ ap (λ (x : ℕ). held x (pin_bits pins ws sources) (length bits)) (sym none ∙ number_is);
    }
      where
        size : length (pin_bits pins ws sources) ≡ pins + 1
        size = length-map-upto (λ u. one (bit (drivers_graph pins ws) (source_of sources) u)) (pins + 1)

        same : length bits₂ - 1 ≡ pins
        same = omega (arith, e, bits_are)

        full : bits₂ ≡ filled (pin_bits pins ws sources) (length bits₂)
        full = filled_is bits₂ (pin_bits pins ws sources) (omega (arith, e, bits_are, size))
            (λ j l. f.done j (omega (arith, l, size, bits_are)) ∙ ap (λ (n : ℕ). one (bit (drivers_graph n ws) (source_of sources) j)) same
            ∙ sym (map-upto (λ u. one (bit (drivers_graph pins ws) (source_of sources) u)) 0 (pins + 1) j (omega (arith, l, size))))
            (λ j l. word_past bits₂ j (omega (arith, l, size, e, bits_are)))
