-- Pins in range and allowed pins, in the code's shape.
use mathlib.Core.Path.{◌≡◌, refl, sym, ◌∙◌, ap}
use mathlib.Core.Bool.{Bool, true, false, ◌&&◌}
use mathlib.Core.List.{List, [], ◌∷◌}
use Prim.Native.Nat.{ℕ, ◌<◌, ◌≤◌}
use native.Mathlib.Omega.{arith}
use lib.ListN.{length, get_or}
use borrow.Author.Tests.{ltb-true, leb-true, eqb-true}
use Rattle.std.specs.Prelude.{◌==◌}
use Rattle.laws.specs.Tests.{◌<?◌, ◌≤?◌, same}
use Rattle.laws.specs.Lists.{any, every}
use Rattle.laws.proofs.Tests.{by_test, true≢false, and_l, and_r, or_cases}
use Rattle.rules.specs.Netlist.{Slot, Kind, top, and2, inv, buf, dff, clock_gate, ram, unfit, slots, kind_of}
use Rattle.kinds.specs.Slots.{kind_word, slot_allows}
use Rattle.kinds.proofs.Allow.{allowed}
use Rattle.pins.specs.Words.{pin_at, ranged, Held, slotted, with_pins}

-- ---- ranges
pub ranged_cell : (pins : List ℕ) (cells nets p : ℕ) → ranged pins cells nets p ≡ true → pin_at pins 0 p < cells
ranged_cell pins cells nets p t =
    ltb-true (pin_at pins 0 p) cells (and_l (pin_at pins 0 p <? cells) (pin_at pins 4 p <? nets)
    (and_l ((pin_at pins 0 p <? cells) && (pin_at pins 4 p <? nets)) (pin_at pins 3 p ≤? 1) t))

-- ---- every pin that a kind may have has a name below 17 and at most 32 bits
small : List Slot → Bool
small ss = every (λ s. (s.name <? 17) && (s.bits ≤? 32)) ss

all_small : (k : Kind) → small (slots k) ≡ true
unfolding small
all_small top = refl
all_small (and2 x y z) = refl
all_small inv = refl
all_small buf = refl
all_small dff = refl
all_small clock_gate = refl
all_small ram = refl
all_small unfit = refl

abbrev fits : Bool → ℕ → ℕ → Slot → Bool
fits out m bit s = same out s.out && (m == s.name) && (bit <? s.bits)

in_small : (out : Bool) (m bit : ℕ) (ss : List Slot) → small ss ≡ true → any (fits out m bit) ss ≡ true → (m < 17) × (bit < 32)
unfolding small
in_small out m bit [] h t = true≢false false t refl
in_small out m bit (s ∷ ss) h t =
    let a : ((s.name <? 17) && (s.bits ≤? 32)) ≡ true = and_l ((s.name <? 17) && (s.bits ≤? 32)) (every (λ x. (x.name <? 17) && (x.bits ≤? 32)) ss) h in
    or_cases (fits out m bit s) (any (fits out m bit) ss) t
    (λ y. let b : (same out s.out && (m == s.name)) ≡ true = and_l (same out s.out && (m == s.name)) (bit <? s.bits) y in (
      omega (arith, eqb-true m s.name (and_r (same out s.out) (m == s.name) b), ltb-true s.name 17 (and_l (s.name <? 17) (s.bits ≤? 32) a)),
      omega (arith, ltb-true bit s.bits (and_r (same out s.out && (m == s.name)) (bit <? s.bits) y), leb-true s.bits 32 (and_r (s.name <? 17) (s.bits ≤? 32) a)),
    ))
    (λ y. in_small out m bit ss (and_r ((s.name <? 17) && (s.bits ≤? 32)) (every (λ x. (x.name <? 17) && (x.bits ≤? 32)) ss) h) y)

-- so an allowed pin has
pub slotted_small : (kinds pins : List ℕ) (p : ℕ) → slotted kinds pins p ≡ true → (pin_at pins 1 p < 17) × (pin_at pins 2 p < 32)
slotted_small kinds pins p t =
    in_small (pin_at pins 3 p == 1) (pin_at pins 1 p) (pin_at pins 2 p) (slots (kind_of (with_pins kinds pins) (pin_at pins 0 p)))
    (all_small (kind_of (with_pins kinds pins) (pin_at pins 0 p))) t

-- ---- allowed pins
module _ (kinds pins : List ℕ) (p : ℕ) (h : Held kinds pins p) (name : ℕ) (en : name ≡ pin_at pins 1 p) where
  pub name_large : 17 ≤ name → false ≡ slotted kinds pins p
  name_large l = by_test (slotted kinds pins p) (λ t. absurd (omega (arith, (slotted_small kinds pins p t).0))) (λ f. sym f)

  module _ (small-name : name < 17) (cell : ℕ) (ec : cell ≡ pin_at pins 0 p) where
    pub cell_in : cell < length kinds
    cell_in = omega (arith, h.cell)

    module _ (kind : ℕ) (ek : kind ≡ get_or kinds cell 0) where
      the_kind : kind ≡ get_or kinds (pin_at pins 0 p) 0
      the_kind = ek ∙ ap (λ (c : ℕ). get_or kinds c 0) ec

      pub kind_in : kind < 13
      kind_in = omega (arith, h.kind, the_kind)

      pub allowed_by : (word bit direction : ℕ) → word ≡ kind_word kind name → bit ≡ pin_at pins 2 p → direction ≡ pin_at pins 3 p
          → (r : Bool) → r ≡ slot_allows word bit direction → r ≡ slotted kinds pins p
      allowed_by word bit direction ew eb ed r er =
          er ∙ (λ i. slot_allows (ew i) (eb i) (ed i)) ∙ (λ i. slot_allows (kind_word (the_kind i) (en i)) (pin_at pins 2 p) (pin_at pins 3 p))
          ∙ allowed (get_or kinds (pin_at pins 0 p) 0) (pin_at pins 1 p) (pin_at pins 2 p) (pin_at pins 3 p) (omega (arith, h.kind)) (omega arith)
