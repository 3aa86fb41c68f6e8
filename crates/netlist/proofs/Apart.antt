-- No two pins of a cell other than the top are alike exactly where each stands alone under its name and bit.
use mathlib.Core.Path.{◌≡◌, refl, sym, ◌∙◌, ap, subst}
use mathlib.Core.Bool.{Bool, true, false, ◌&&◌}
use mathlib.Core.List.{List, [], ◌∷◌}
use Prim.Native.Nat.{ℕ, ◌+◌, ◌-◌, ◌<◌, ◌≤◌}
use native.Mathlib.Omega.{arith}
use lib.ListN.{length, get_or}
use borrow.Author.Tests.{ltb-true, ltb-false, eqb-true, eqb-false, eq-eqb, ne_eqb}
use Rattle.std.specs.Prelude.{◌==◌}
use Rattle.laws.specs.Tests.{◌<?◌}
use Rattle.laws.specs.Lists.{count, keep, every, upto}
use Rattle.laws.proofs.Tests.{by_test, one_eq, and_l, and_r, or_left, or_right}
use Rattle.laws.proofs.Bags.{here, there, count-keep, keep_le, keep_true, only_one}
use Rattle.laws.proofs.Indices.{index_of, once_at}
use Rattle.laws.proofs.Ranges.{every_upto, of_upto, upto_fails}
use Rattle.pins.specs.Words.{pin_at, slotted}
use Rattle.pins.proofs.Steps.{slotted_small}
use Rattle.lists.specs.Parts.{cell_list}
use Rattle.lists.proofs.Steps.{upward}
use Rattle.repeats.specs.Alike.{code_of, cell_on, code_on, Sorted, Looked, apart, alike}
use Rattle.netlist.specs.Tables.{without_nets, Listed, alone}
use Rattle.netlist.proofs.Once.{segment, entry_in, part_le}

-- a list of one number over and over
all_same : (p : ℕ) (l : List ℕ) → ((q : ℕ) → 0 < count q l → q ≡ p) → length l ≡ count p l
all_same p [] h = refl
all_same p (x ∷ l) h = omega (arith, one_eq p x (sym (h x (here x l))), all_same p l (λ q m. h q (there q x l m)))

module _ (kinds starts list pins : List ℕ) (cells : ℕ) (l : Listed starts list pins cells)
    (a : every (slotted kinds pins) (upto (length list)) ≡ true) where
  small : (p : ℕ) → p < length list → (pin_at pins 1 p < 17) × (pin_at pins 2 p < 32)
  small p h = slotted_small kinds pins p (of_upto (slotted kinds pins) (length list) p a h)

  -- ---- the lists have the cells in rising order
  cell_at : {P : Type 0} (j : ℕ) → j < length list → ((c : ℕ) → c < cells → get_or starts c 0 ≤ j → j < get_or starts (c + 1) 0 → cell_on list pins j ≡ c → P) → P
  cell_at j h k = segment starts cells (length list) l.starts_are j h (λ c x y z.
      k c x y z (l.own_cell c (get_or list j 0) x (entry_in starts list cells l.starts_are c j x y z)).1)

  cells_rise : (i j : ℕ) → i < j → j < length list → cell_on list pins i ≤ cell_on list pins j
  cells_rise i j h m = cell_at i (omega arith) (λ c cx cy cz ce. cell_at j m (λ d dx dy dz de. by_test (d <? c)
      (λ t. let u = ltb-true d c t in absurd (omega (arith, upward starts cells l.starts_are.rise (d + 1) c (omega arith) (omega arith), cy, dz, h)))
      (λ f. omega (arith, ce, de, ltb-false d c f))))

  pub sorted : Sorted list pins
  sorted = record {
    long = l.long;
    below = l.below;
    name = λ j h. (small (get_or list j 0) (l.below j h)).0;
    bit = λ j h. (small (get_or list j 0) (l.below j h)).1;
    rise = cells_rise;
  }

  -- ---- the pins of a cell with the name and bit of a pin
  abbrev test : ℕ → ℕ → Bool
  test p q = (pin_at pins 1 q == pin_at pins 1 p) && (pin_at pins 2 q == pin_at pins 2 p)

  abbrev likes : ℕ → List ℕ
  likes p = keep (test p) (cell_list starts list (pin_at pins 0 p))

  itself : (p : ℕ) → test p p ≡ true
  itself p = rw (eq-eqb (pin_at pins 1 p) (pin_at pins 1 p) refl, eq-eqb (pin_at pins 2 p) (pin_at pins 2 p) refl)

  count_self : (p : ℕ) → p < length list → count p (likes p) ≡ 1
  count_self p h = count-keep (test p) p (cell_list starts list (pin_at pins 0 p)) (itself p) ∙ l.once_there p h

  module _ (far : (i j : ℕ) → i < j → j < length list → (cell_on list pins j ≡ 0 → ⊥) → cell_on list pins i ≡ cell_on list pins j
      → code_on list pins i ≡ code_on list pins j → ⊥) where
    -- places of two pins of one cell with one name and bit
    same_place : (i j : ℕ) → i < length list → j < length list → (cell_on list pins j ≡ 0 → ⊥) → cell_on list pins i ≡ cell_on list pins j
        → code_on list pins i ≡ code_on list pins j → i ≡ j
    same_place i j hi hj nz ec ed = by_test (i <? j)
        (λ t. absurd (far i j (ltb-true i j t) hj nz ec ed))
        (λ f. by_test (j <? i)
        (λ t. absurd (far j i (ltb-true j i t) hi (λ z. nz (sym ec ∙ z)) (sym ec) (sym ed)))
        (λ g. omega (arith, ltb-false i j f, ltb-false j i g)))

    only : (p : ℕ) → p < length list → (pin_at pins 0 p ≡ 0 → ⊥) → (q : ℕ) → 0 < count q (likes p) → q ≡ p
    only p h nz q m =
        let k : 0 < count q (cell_list starts list (pin_at pins 0 p)) = omega (arith, m, keep_le (test p) q (cell_list starts list (pin_at pins 0 p))) in
        let t : test p q ≡ true = keep_true (test p) q (cell_list starts list (pin_at pins 0 p)) m in
        let from : ℕ = get_or starts (pin_at pins 0 p) 0 in
        let len : ℕ = get_or starts (pin_at pins 0 p + 1) 0 - get_or starts (pin_at pins 0 p) 0 in
        let i = index_of list q (omega (arith, k, part_le q len from list)) in
        let j = index_of list p (omega (arith, l.once_there p h, part_le p len from list)) in
        let eq : get_or list i.0 0 ≡ q = i.2 in
        let ep : get_or list j.0 0 ≡ p = j.2 in
        let same-cell : pin_at pins 0 q ≡ pin_at pins 0 p = (l.own_cell (pin_at pins 0 p) q (l.cell p h) k).1 in
        let same_name : pin_at pins 1 q ≡ pin_at pins 1 p = eqb-true (pin_at pins 1 q) (pin_at pins 1 p) (and_l (pin_at pins 1 q == pin_at pins 1 p) (pin_at pins 2 q == pin_at pins 2 p) t) in
        let same_bit : pin_at pins 2 q ≡ pin_at pins 2 p = eqb-true (pin_at pins 2 q) (pin_at pins 2 p) (and_r (pin_at pins 1 q == pin_at pins 1 p) (pin_at pins 2 q == pin_at pins 2 p) t) in
        let same_code : code_of pins q ≡ code_of pins p = omega (arith, same_name, same_bit) in
        let e : i.0 ≡ j.0 = same_place i.0 j.0 i.1 j.1
        (λ z. nz (ap (λ (x : ℕ). pin_at pins 0 x) (sym ep) ∙ z))
        (ap (λ (x : ℕ). pin_at pins 0 x) eq ∙ same-cell ∙ ap (λ (x : ℕ). pin_at pins 0 x) (sym ep))
        (ap (λ (x : ℕ). code_of pins x) eq ∙ same_code ∙ ap (λ (x : ℕ). code_of pins x) (sym ep)) in
        sym eq ∙ ap (λ (x : ℕ). get_or list x 0) e ∙ ep

    all_alone : every (alone (without_nets kinds starts list pins)) (upto (length list)) ≡ true
    all_alone = every_upto (alone (without_nets kinds starts list pins)) (length list) (λ p h. by_test (pin_at pins 0 p == 0)
        (λ t. or_left (pin_at pins 0 p == 0) (length (likes p) == 1) t)
        (λ f. or_right (pin_at pins 0 p == 0) (length (likes p) == 1)
        (eq-eqb (length (likes p)) 1 (all_same p (likes p) (only p h (eqb-false (pin_at pins 0 p) 0 f)) ∙ count_self p h))))

  module _ (i j : ℕ) (h : i < j) (m : j < length list) (nz : cell_on list pins j ≡ 0 → ⊥) (ec : cell_on list pins i ≡ cell_on list pins j)
      (ed : code_on list pins i ≡ code_on list pins j) where
    abbrev p : ℕ
    p = get_or list j 0

    abbrev q : ℕ
    q = get_or list i 0

    both_small : (pin_at pins 2 q < 32) × (pin_at pins 2 p < 32)
    both_small = ((small q (l.below i (omega arith))).1, (small p (l.below j m)).1)

    q_likes : 0 < count q (likes p)
    q_likes =
        let sn : pin_at pins 1 q ≡ pin_at pins 1 p = omega (arith, ed, both_small.0, both_small.1) in
        let sb : pin_at pins 2 q ≡ pin_at pins 2 p = omega (arith, ed, both_small.0, both_small.1) in
        rw (count-keep (test p) q (cell_list starts list (pin_at pins 0 p)) (rw (eq-eqb (pin_at pins 1 q) (pin_at pins 1 p) sn, eq-eqb (pin_at pins 2 q) (pin_at pins 2 p) sb)))
        (subst (λ (c : ℕ). 0 < count q (cell_list starts list c)) ec (omega (arith, l.once_there q (l.below i (omega arith)))))

    not_alone : every (alone (without_nets kinds starts list pins)) (upto (length list)) ≡ false
    not_alone = upto_fails (alone (without_nets kinds starts list pins)) (length list) p (l.below j m)
        (rw (ne_eqb (pin_at pins 0 p) 0 nz) (ne_eqb (length (likes p)) 1 (λ e.
        let same : q ≡ p = only_one (likes p) q p e q_likes (omega (arith, count_self p (l.below j m))) in
        omega (arith, h, once_at list l.single i j (omega arith) m same))))

  pub looked_alone : (r : Bool) → Looked list pins r → r ≡ every (alone (without_nets kinds starts list pins)) (upto (length list))
  looked_alone r (apart far e) = e ∙ sym (all_alone far)
  looked_alone r (alike i j h m nz ec ed e) = e ∙ sym (not_alone i j h m nz ec ed)
