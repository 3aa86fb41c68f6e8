-- Each refusal of a netlist by its number: it is given exactly when the earlier tests pass and this one's proposition does not hold.
use mathlib.Core.Path.{◌≡◌, refl, sym, ◌∙◌}
use mathlib.Core.Logic.{◌↔◌}
use mathlib.Core.Bool.{true, false}
use Prim.Native.Nat.{ℕ}
use native.Mathlib.Omega.{arith}
use Rattle.rules.specs.Netlist.{Netlist, kinds_fit, no_latch, pins_fit, nets_fit}
use Rattle.rules.specs.Build.{walk}
use Rattle.rules.specs.Refusals.{tables_number, Loop, clocks_number, netlist_number}
use Rattle.rules.proofs.Accepts.{Reached, FirstFailing, walk_cases, Verdict, accepted, bad_kind, a_latch, bad_pin, bad_net, looping, bad_clock, marker_reaches, verdict_iff}

module _ (n : Netlist) where
  -- a walk that fails gives 8 or 9 and no other number
  no_walk : {P : Type 0} (k : ℕ) → FirstFailing n k → (k ≡ 0 → ⊥) → (k ≡ 8 → ⊥) → (k ≡ 9 → ⊥) → P
  no_walk k w a b c = absurd (walk_cases (walk n w.pin) (λ e. a (sym w.fails ∙ e)) (λ e. b (sym w.fails ∙ e)) (λ e. c (sym w.fails ∙ e)))

  -- 3: a kind above 12, cell 0 not top, or another top
  pub number_3 : (netlist_number n ≡ 3) ↔ (kinds_fit n ≡ false)
  number_3 = ((λ e. why ((verdict_iff n 3).0 e)), λ a. (verdict_iff n 3).1 (bad_kind refl a))
    where
      why : Verdict n 3 → kinds_fit n ≡ false
      why (accepted e acc) = absurd (omega arith)
      why (bad_kind e a) = a
      why (a_latch e a b) = absurd (omega arith)
      why (bad_pin e a b c) = absurd (omega arith)
      why (bad_net e a b c d) = absurd (omega arith)
      why (looping e t l) = absurd (omega arith)
      why (bad_clock j e t nl w) = no_walk 3 w (λ z. omega arith) (λ z. omega arith) (λ z. omega arith)
      why (marker_reaches e t nl c r) = absurd (omega arith)

  -- 4: a LATCH
  pub number_4 : (netlist_number n ≡ 4) ↔ ((kinds_fit n ≡ true) × (no_latch n ≡ false))
  number_4 = ((λ e. why ((verdict_iff n 4).0 e)), λ w. (verdict_iff n 4).1 (a_latch refl w.0 w.1))
    where
      why : Verdict n 4 → (kinds_fit n ≡ true) × (no_latch n ≡ false)
      why (accepted e acc) = absurd (omega arith)
      why (bad_kind e a) = absurd (omega arith)
      why (a_latch e a b) = (a, b)
      why (bad_pin e a b c) = absurd (omega arith)
      why (bad_net e a b c d) = absurd (omega arith)
      why (looping e t l) = absurd (omega arith)
      why (bad_clock j e t nl w) = no_walk 4 w (λ z. omega arith) (λ z. omega arith) (λ z. omega arith)
      why (marker_reaches e t nl c r) = absurd (omega arith)

  -- 5: the second or fourth rule of the netlist tables is broken
  pub number_5 : (netlist_number n ≡ 5) ↔ ((kinds_fit n ≡ true) × (no_latch n ≡ true) × (pins_fit n ≡ false))
  number_5 = ((λ e. why ((verdict_iff n 5).0 e)), λ w. (verdict_iff n 5).1 (bad_pin refl w.0 w.1 w.2))
    where
      why : Verdict n 5 → (kinds_fit n ≡ true) × (no_latch n ≡ true) × (pins_fit n ≡ false)
      why (accepted e acc) = absurd (omega arith)
      why (bad_kind e a) = absurd (omega arith)
      why (a_latch e a b) = absurd (omega arith)
      why (bad_pin e a b c) = (a, b, c)
      why (bad_net e a b c d) = absurd (omega arith)
      why (looping e t l) = absurd (omega arith)
      why (bad_clock j e t nl w) = no_walk 5 w (λ z. omega arith) (λ z. omega arith) (λ z. omega arith)
      why (marker_reaches e t nl c r) = absurd (omega arith)

  -- 6: the net rule is broken
  pub number_6 : (netlist_number n ≡ 6) ↔ ((kinds_fit n ≡ true) × (no_latch n ≡ true) × (pins_fit n ≡ true) × (nets_fit n ≡ false))
  number_6 = ((λ e. why ((verdict_iff n 6).0 e)), λ w. (verdict_iff n 6).1 (bad_net refl w.0 w.1 w.2 w.3))
    where
      why : Verdict n 6 → (kinds_fit n ≡ true) × (no_latch n ≡ true) × (pins_fit n ≡ true) × (nets_fit n ≡ false)
      why (accepted e acc) = absurd (omega arith)
      why (bad_kind e a) = absurd (omega arith)
      why (a_latch e a b) = absurd (omega arith)
      why (bad_pin e a b c) = absurd (omega arith)
      why (bad_net e a b c d) = (a, b, c, d)
      why (looping e t l) = absurd (omega arith)
      why (bad_clock j e t nl w) = no_walk 6 w (λ z. omega arith) (λ z. omega arith) (λ z. omega arith)
      why (marker_reaches e t nl c r) = absurd (omega arith)

  -- 7: a loop along the visits
  pub number_7 : (netlist_number n ≡ 7) ↔ ((tables_number n ≡ 0) × Loop n)
  number_7 = ((λ e. why ((verdict_iff n 7).0 e)), λ w. (verdict_iff n 7).1 (looping refl w.0 w.1))
    where
      why : Verdict n 7 → (tables_number n ≡ 0) × Loop n
      why (accepted e acc) = absurd (omega arith)
      why (bad_kind e a) = absurd (omega arith)
      why (a_latch e a b) = absurd (omega arith)
      why (bad_pin e a b c) = absurd (omega arith)
      why (bad_net e a b c d) = absurd (omega arith)
      why (looping e t l) = (t, l)
      why (bad_clock j e t nl w) = no_walk 7 w (λ z. omega arith) (λ z. omega arith) (λ z. omega arith)
      why (marker_reaches e t nl c r) = absurd (omega arith)

  -- 8: the first walk that fails meets another kind of cell
  pub number_8 : (netlist_number n ≡ 8) ↔ ((tables_number n ≡ 0) × (Loop n → ⊥) × FirstFailing n 8)
  number_8 = ((λ e. why ((verdict_iff n 8).0 e)), λ w. (verdict_iff n 8).1 (bad_clock 7 refl w.0 w.1 w.2))
    where
      why : Verdict n 8 → (tables_number n ≡ 0) × (Loop n → ⊥) × FirstFailing n 8
      why (accepted e acc) = absurd (omega arith)
      why (bad_kind e a) = absurd (omega arith)
      why (a_latch e a b) = absurd (omega arith)
      why (bad_pin e a b c) = absurd (omega arith)
      why (bad_net e a b c d) = absurd (omega arith)
      why (looping e t l) = absurd (omega arith)
      why (bad_clock j e t nl w) = (t, nl, w)
      why (marker_reaches e t nl c r) = absurd (omega arith)

  -- 9: the first walk that fails meets a 65th cell
  pub number_9 : (netlist_number n ≡ 9) ↔ ((tables_number n ≡ 0) × (Loop n → ⊥) × FirstFailing n 9)
  number_9 = ((λ e. why ((verdict_iff n 9).0 e)), λ w. (verdict_iff n 9).1 (bad_clock 8 refl w.0 w.1 w.2))
    where
      why : Verdict n 9 → (tables_number n ≡ 0) × (Loop n → ⊥) × FirstFailing n 9
      why (accepted e acc) = absurd (omega arith)
      why (bad_kind e a) = absurd (omega arith)
      why (a_latch e a b) = absurd (omega arith)
      why (bad_pin e a b c) = absurd (omega arith)
      why (bad_net e a b c d) = absurd (omega arith)
      why (looping e t l) = absurd (omega arith)
      why (bad_clock j e t nl w) = (t, nl, w)
      why (marker_reaches e t nl c r) = absurd (omega arith)

  -- 10: a marker reaches a pin that must have a logic bit
  pub number_10 : (netlist_number n ≡ 10) ↔ ((tables_number n ≡ 0) × (Loop n → ⊥) × (clocks_number n ≡ 0) × Reached n)
  number_10 = ((λ e. why ((verdict_iff n 10).0 e)), λ w. (verdict_iff n 10).1 (marker_reaches refl w.0 w.1 w.2 w.3))
    where
      why : Verdict n 10 → (tables_number n ≡ 0) × (Loop n → ⊥) × (clocks_number n ≡ 0) × Reached n
      why (accepted e acc) = absurd (omega arith)
      why (bad_kind e a) = absurd (omega arith)
      why (a_latch e a b) = absurd (omega arith)
      why (bad_pin e a b c) = absurd (omega arith)
      why (bad_net e a b c d) = absurd (omega arith)
      why (looping e t l) = absurd (omega arith)
      why (bad_clock j e t nl w) = no_walk 10 w (λ z. omega arith) (λ z. omega arith) (λ z. omega arith)
      why (marker_reaches e t nl c r) = (t, nl, c, r)
