-- The parts put together, in the code's shape.
use mathlib.Core.Path.{◌≡◌, refl, sym, ap, ◌∙◌}
use mathlib.Core.Bool.{Bool, true, false}
use mathlib.Core.List.{List}
use Prim.Native.Nat.{ℕ, ◌+◌, ◌*◌, ◌≤◌, ◌<◌}
use native.Mathlib.Omega.{arith}
use lib.ListN.{get_or}
use Rattle.laws.proofs.Tests.{true≢false}
use Rattle.rules.specs.Refusals.{is_dff, is_ram}
use Rattle.rules.specs.Tables.{drivers_in}
use Rattle.marks.specs.Marking.{Clear, MarkedAll, a_set, no_set}
use Rattle.graphs.specs.Parts.{dff_pins_in, ram_pins_in, pins_match, Compared, pins_ok, outputs_ok, dff_literals_fit, ram_literals_fit, literals_ok, records_ok}

-- ---- clear places: a part of them, and what a comparison leaves of them
pub clear_first : (w : List ℕ) (m : ℕ) → Clear w 0 (2 * m) → Clear w 0 m
clear_first w m c = record { long = omega (arith, c.long); none = λ p l. c.none p (omega arith) }

pub clear_half : (w : List ℕ) (m : ℕ) → Clear w 0 (4 * m) → Clear w 0 (2 * m)
clear_half w m c = record { long = omega (arith, c.long); none = λ p l. c.none p (omega arith) }

kept_clear : (ok : Bool) (w w' : List ℕ) (k n base : ℕ) (r : Bool) → Clear w 0 n → Compared ok w 0 k w' r → r ≡ true → k ≤ base → (m : ℕ) → base + m ≤ n → Clear w' base m
kept_clear ok w w' k n base r c d y l m s = record {
  long = omega (arith, c.long, d.same_length, s);
  none = λ p q. d.kept y (base + p) (omega (arith, l)) ∙ rest (base + p) (omega (arith, s, q));
}
  where
    rest : (j : ℕ) → j < n → get_or w j 0 ≡ 0
    rest j q = ap (λ (x : ℕ). get_or w x 0) (let e : j ≡ 0 + j = omega arith in e) ∙ c.none j q

pub clear_second : (ok : Bool) (w w' : List ℕ) (m : ℕ) (r : Bool) → Clear w 0 (2 * m) → Compared ok w 0 m w' r → r ≡ true → Clear w' m m
clear_second ok w w' m r c d y = kept_clear ok w w' m (2 * m) m r c d y (omega arith) m (omega arith)

pub clear_rest : (ok : Bool) (w w' : List ℕ) (m : ℕ) (r : Bool) → Clear w 0 (4 * m) → Compared ok w 0 (2 * m) w' r → r ≡ true → Clear w' (2 * m) (2 * m)
clear_rest ok w w' m r c d y = kept_clear ok w w' (2 * m) (4 * m) (2 * m) r c d y (omega arith) (2 * m) (omega arith)

module _ (drivers dffs rams : List ℕ) (flops memories pins : ℕ) (w w₁ : List ℕ) (r₁ : Bool)
    (first : Compared (pins_match is_dff (dff_pins_in dffs flops) (drivers_in drivers pins)) w 0 (pins + 1) w₁ r₁) where
  pub flops_differ : r₁ ≡ false → Compared (pins_ok drivers dffs flops rams memories pins) w 0 (2 * (pins + 1)) w₁ false
  flops_differ f = record { answer = sym (rw (sym first.answer ∙ f)); same_length = first.same_length; kept = λ z. true≢false false z refl }

  pub memories_tell : r₁ ≡ true → (w₂ : List ℕ) (r₂ : Bool)
      → Compared (pins_match is_ram (ram_pins_in rams memories) (drivers_in drivers pins)) w₁ (pins + 1) (pins + 1) w₂ r₂
      → Compared (pins_ok drivers dffs flops rams memories pins) w 0 (2 * (pins + 1)) w₂ r₂
  memories_tell y w₂ r₂ second = record {
    answer = second.answer ∙ sym (rw (sym first.answer ∙ y));
    same_length = second.same_length ∙ first.same_length;
    kept = λ z j l. second.kept z j (omega arith) ∙ first.kept y j (omega arith);
  }

module _ (outputs dffs rams : List ℕ) (flops memories pins : ℕ) (w w₁ : List ℕ) (base limit : ℕ) (s : Bool)
    (b : base ≡ 2 * (pins + 1)) (l : limit ≡ 2 * (pins + 1)) (m : MarkedAll outputs w base limit w₁ s) where
  told : outputs_ok outputs pins ≡ s
  told = go limit l m
    where
      go : (x : ℕ) → x ≡ 2 * (pins + 1) → MarkedAll outputs w base x w₁ s → outputs_ok outputs pins ≡ s
      go x e (a_set k q t) = (rw (← e) q) ∙ sym t
      go x e (no_set q n t) = (rw (← e) q) ∙ sym t

  pub outputs_unfit : s ≡ false → false ≡ literals_ok outputs dffs flops rams memories pins
  outputs_unfit f = sym (rw (told ∙ f))

  module _ (y : s ≡ true) (r : Bool) (d : r ≡ dff_literals_fit dffs flops pins) where
    pub flops_unfit : r ≡ false → false ≡ literals_ok outputs dffs flops rams memories pins
    flops_unfit f = sym (rw (told ∙ y, sym d ∙ f))

    pub memories_unfit : r ≡ true → (q : Bool) → q ≡ ram_literals_fit rams memories pins → q ≡ literals_ok outputs dffs flops rams memories pins
    memories_unfit z q e = e ∙ sym (rw (told ∙ y, sym d ∙ z))

module _ (drivers outputs dffs rams : List ℕ) (flops memories pins : ℕ) (w w₁ : List ℕ) (r₁ : Bool)
    (first : Compared (pins_ok drivers dffs flops rams memories pins) w 0 (2 * (pins + 1)) w₁ r₁) where
  pub pins_unfit : r₁ ≡ false → false ≡ records_ok drivers outputs dffs flops rams memories pins
  pins_unfit f = sym (rw (sym first.answer ∙ f))

  pub literals_tell : r₁ ≡ true → (r₂ : Bool) → r₂ ≡ literals_ok outputs dffs flops rams memories pins → r₂ ≡ records_ok drivers outputs dffs flops rams memories pins
  literals_tell y r₂ e = e ∙ sym (rw (sym first.answer ∙ y))
