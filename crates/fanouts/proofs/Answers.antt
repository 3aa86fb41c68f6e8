-- The answer of a call for fanouts.
use mathlib.Core.Path.{◌≡◌, sym, ap, ◌∙◌}
use mathlib.Core.Bool.{Bool, true, false}
use mathlib.Core.List.{List}
use Prim.Native.Nat.{ℕ, ◌+◌, ◌-◌, ◌*◌, ◌≤◌}
use native.Mathlib.Omega.{arith}
use borrow.Author.Tests.{eqb-true}
use lib.ListN.{length}
use Rattle.std.specs.Prelude.{Result, Ok, Err, ◌==◌}
use Rattle.laws.specs.Tests.{◌≤?◌, refuse}
use Rattle.laws.specs.Words.{zeros}
use Rattle.laws.proofs.Tests.{next-refused}
use Rattle.laws.proofs.Words.{zeros-length}
use Rattle.rules.specs.declared.Refusal.{Refusal}
use Rattle.rules.specs.declared.Refusal.TheVariants.{Room}
use Rattle.rules.specs.Build.{fanouts, fanout_starts, gate_count}
use Rattle.rules.specs.Refusals.{drivers_fit}
use Rattle.rules.specs.Tables.{drivers_in, held}
use Rattle.rules.specs.Answers.{done_of, drivers_number, fanouts_number}
use Rattle.walk.specs.State.{Operands}
use Rattle.walk.proofs.Leads.{operands_fit}
use Rattle.walk.proofs.Answered.{number_zero, or_refused, held_none}
use Rattle.walk.proofs.Numbers.{Sound, number_sound}
use Rattle.fanouts.specs.Fans.{FannedOut, Fanned}

-- ---- s₁ and l₁ are the starts and the lists after they were cleared
module _ (ws : List ℕ) (pins : ℕ) (s l s₁ l₁ : List ℕ) (es : s₁ ≡ zeros (length s)) (el : l₁ ≡ zeros (length l)) where
  abbrev number : ℕ
  number = fanouts_number pins ws (length s) (length l)

  abbrev room : Bool
  room = 2 * gate_count (drivers_in ws pins) ≤? length l

  long : length s₁ ≡ length s
  long = ap length es ∙ zeros-length (length s)

  wide : length l₁ ≡ length l
  wide = ap length el ∙ zeros-length (length l)

  -- the number before any counting
  first_is : drivers_number pins ws (length l₁ ≤? 33554430) (length s₁ == pins + 2) ≡ drivers_number pins ws (length l ≤? 33554430) (length s == pins + 2)
  first_is = λ i. drivers_number pins ws (wide i ≤? 33554430) (long i == pins + 2)

  pub refused_early : (e : Refusal) → Err e ≡ done_of (drivers_number pins ws (length l₁ ≤? 33554430) (length s₁ == pins + 2)) → FannedOut ws pins s l s₁ l₁ (Err e)
  unfolding fanouts_number
  refused_early e q =
      let w : Err e ≡ done_of number
      = or_refused (drivers_number pins ws (length l ≤? 33554430) (length s == pins + 2)) (refuse 11 room) tt e (q ∙ ap done_of first_is) in
      record {
        answer = w;
        held_starts = es ∙ held_none number (fanout_starts (drivers_in ws pins)) (length s) e w;
        held_lists = el ∙ held_none number (fanouts (drivers_in ws pins)) (length l) e w;
      }

  module _ (u : Unit {0}) (y : Ok u ≡ done_of (drivers_number pins ws (length l₁ ≤? 33554430) (length s₁ == pins + 2))) where
    none : drivers_number pins ws (length l₁ ≤? 33554430) (length s₁ == pins + 2) ≡ 0
    none = number_zero (drivers_number pins ws (length l₁ ≤? 33554430) (length s₁ == pins + 2)) u tt y

    sound : Sound ws pins (length l₁ ≤? 33554430) (length s₁ == pins + 2)
    sound = number_sound ws pins (length l₁ ≤? 33554430) (length s₁ == pins + 2) none

    size : length s₁ ≡ pins + 2
    size = eqb-true (length s₁) (pins + 2) sound.lengths_fit_lem

    fit : Operands ws (pins + 1)
    fit = let e : pins + 1 - 1 ≡ pins = omega arith in operands_fit ws (pins + 1) (omega arith) (ap (drivers_fit ws) e ∙ sound.fits)

    pub fan_asks : (pins ≤ 16777215)
        × ((3 * (pins + 1) ≤ length ws)
        × (Operands ws (pins + 1) × ((pins + 2 ≤ length s₁) × ((s₁ ≡ zeros (length s₁)) × (l₁ ≡ zeros (length l₁))))))
    fan_asks = (sound.few, (omega (arith, sound.long), (fit, (omega (arith, size), (es ∙ ap zeros (sym long), el ∙ ap zeros (sym wide))))))

    number_is : number ≡ refuse 11 room
    unfolding fanouts_number
    number_is = next-refused (drivers_number pins ws (length l ≤? 33554430) (length s == pins + 2)) (refuse 11 room) (sym first_is ∙ none)

    module _ (s₂ l₂ : List ℕ) (r : Bool) (f : Fanned ws pins s₁ l₁ s₂ l₂ r) where
      number_of : refuse 11 r ≡ number
      number_of = ap (refuse 11) (f.answer ∙ ap (λ (n : ℕ). 2 * gate_count (drivers_in ws pins) ≤? n) wide) ∙ sym number_is

      answered : (d : Result (Unit {0}) Refusal) → d ≡ done_of (refuse 11 r) → FannedOut ws pins s l s₂ l₂ d
      answered d e = record {
        answer = e ∙ ap done_of number_of;
        held_starts = f.held_starts ∙ (λ i. held (number_of i) (fanout_starts (drivers_in ws pins)) (long i));
        held_lists = f.held_lists ∙ (λ i. held (number_of i) (fanouts (drivers_in ws pins)) (wide i));
      }

      pub refused_room : r ≡ false → FannedOut ws pins s l s₂ l₂ (Err Room)
      refused_room e = answered (Err Room) (sym (ap (λ (b : Bool). done_of (refuse 11 b)) e))

      pub accepted : r ≡ true → FannedOut ws pins s l s₂ l₂ (Ok tt)
      accepted e = answered (Ok tt) (sym (ap (λ (b : Bool). done_of (refuse 11 b)) e))
