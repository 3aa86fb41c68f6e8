-- What netlist tables are like that refusals 3 to 6 do not turn away: pins and cells, kinds, required pins, names, nets.
use mathlib.Core.Path.{◌≡◌, refl, sym, ◌∙◌, ap, subst}
use mathlib.Core.Bool.{Bool, true, false, not, ◌&&◌, ◌||◌}
use mathlib.Core.List.{List, [], ◌∷◌}
use Prim.Native.Nat.{ℕ, zero, suc, ◌+◌, ◌-◌, ◌≤◌, ◌<◌}
use native.Mathlib.Omega.{arith}
use lib.ListN.{length, get_or, drop}
use borrow.Author.Tests.{ltb-true, leb-true, eqb-true, eqb-false, eq-eqb, not-true}
use Rattle.std.specs.Prelude.{◌==◌}
use Rattle.laws.specs.Tests.{◌<?◌, ◌≤?◌, same, or_else, refuse}
use Rattle.laws.specs.Lists.{count, keep, every, any, upto}
use Rattle.laws.proofs.Tests.{true≢false, and_l, and_r, or_cases, same_true, not_refused, last_refused}
use Rattle.laws.proofs.Bags.{here, only_one, count-keep, keep_true, keep_le, every_true}
use Rattle.laws.proofs.Ranges.{of_upto}
use Rattle.rules.specs.Netlist.{
  Netlist,
  cells,
  size,
  net_count,
  cell_of,
  name_of,
  bit_of,
  direction_of,
  is_out,
  net_of,
  net_word,
  start_of,
  pins_of,
  kind_table,
  kind_word,
  kind_of,
  Kind,
  top,
  and2,
  inv,
  buf,
  dff,
  clock_gate,
  ram,
  unfit,
  named,
  named_bit,
  pin_named,
  Slot,
  slots,
  kinds_fit,
  no_latch,
  starts_fit,
  pin_fits,
  list_fits,
  in_slot,
  pin_allowed,
  has_must,
  pins_fit,
  net_fits,
  drives,
  nets_fit,
  #A,
  #B,
  #OUT,
  #CP,
  #E,
  #R_DATA,
}
use Rattle.rules.specs.Refusals.{tables_number}

-- two cases of a declared type that are said to be the same
pub clash : {P : Type 0} → ◌≡◌ {A = ℕ} 0 1 → P
clash e = absurd (omega arith)

-- ---- tests joined, as the rules join them
pub three_true : (a b c : Bool) → (a && b && c) ≡ true → (a ≡ true) × (b ≡ true) × (c ≡ true)
three_true true true c h = (refl, refl, h)
three_true true false c h = true≢false false h refl
three_true false b c h = true≢false false h refl

pub four_true : (a b c d : Bool) → (a && b && c && d) ≡ true → (a ≡ true) × (b ≡ true) × (c ≡ true) × (d ≡ true)
four_true true b c d h = let w = three_true b c d h in (refl, w.0, w.1, w.2)
four_true false b c d h = true≢false false h refl

pub five_true : (a b c d e : Bool) → (a && b && c && d && e) ≡ true → (a ≡ true) × (b ≡ true) × (c ≡ true) × (d ≡ true) × (e ≡ true)
five_true true b c d e h = let w = four_true b c d e h in (refl, w.0, w.1, w.2, w.3)
five_true false b c d e h = true≢false false h refl

-- ---- in the table of kinds only number 0 is the top
abbrev is_top : Kind → Bool
is_top top = true
is_top (and2 x y z) = false
is_top inv = false
is_top buf = false
is_top dff = false
is_top clock_gate = false
is_top ram = false
is_top unfit = false

past_top : (l : List Kind) → every (λ k. not (is_top k)) l ≡ true → (y : ℕ) → get_or l y unfit ≡ top → ⊥
past_top [] h y e = clash (cc)
past_top (k ∷ l) h zero e = true≢false (is_top k) (ap is_top e) (not-true (is_top k) (and_l (not (is_top k)) (every (λ j. not (is_top j)) l) h))
past_top (k ∷ l) h (suc y) e = past_top l (and_r (not (is_top k)) (every (λ j. not (is_top j)) l) h) y e

top_number : (x : ℕ) → get_or kind_table x unfit ≡ top → x ≡ 0
top_number zero e = refl
top_number (suc x) e = absurd (past_top (drop 1 kind_table) refl x e)

module _ (n : Netlist) (tab : tables_number n ≡ 0) where
  -- ---- each test passes
  pub tests_pass : (kinds_fit n ≡ true) × (no_latch n ≡ true) × (pins_fit n ≡ true) × (nets_fit n ≡ true)
  tests_pass =
      let a = not_refused 2 (kinds_fit n) (or_else (refuse 4 (no_latch n)) (or_else (refuse 5 (pins_fit n)) (refuse 6 (nets_fit n)))) tab in
      let b = not_refused 3 (no_latch n) (or_else (refuse 5 (pins_fit n)) (refuse 6 (nets_fit n))) a.1 in
      let c = not_refused 4 (pins_fit n) (refuse 6 (nets_fit n)) b.1 in
      (a.0, b.0, c.0, last_refused 5 (nets_fit n) c.1)

  pins_pass : (starts_fit n ≡ true) × (every (pin_fits n) (upto (size n)) ≡ true) × (every (list_fits n) (upto (cells n)) ≡ true)
      × (every (pin_allowed n) (upto (size n)) ≡ true) × (every (has_must n) (upto (cells n)) ≡ true)
  pins_pass = five_true (starts_fit n) (every (pin_fits n) (upto (size n))) (every (list_fits n) (upto (cells n))) (every (pin_allowed n) (upto (size n)))
      (every (has_must n) (upto (cells n))) tests_pass.2

  -- ---- first rule: kinds
  kind_test : (c : ℕ) → c < cells n → ((kind_word n c ≤? 12) && same (kind_word n c == 0) (c == 0)) ≡ true
  kind_test c h = of_upto (λ k. (kind_word n k ≤? 12) && same (kind_word n k == 0) (k == 0)) (cells n) c tests_pass.0 h

  pub kind_fits_lem : (c : ℕ) → c < cells n → kind_word n c ≤ 12
  kind_fits_lem c h = leb-true (kind_word n c) 12 (and_l (kind_word n c ≤? 12) (same (kind_word n c == 0) (c == 0)) (kind_test c h))

  pub not_latch : (c : ℕ) → c < cells n → kind_word n c ≡ 12 → ⊥
  not_latch c h = eqb-false (kind_word n c) 12 (not-true (kind_word n c == 12) (of_upto (λ k. not (kind_word n k == 12)) (cells n) c tests_pass.1 h))

  zero_alike : (c : ℕ) → c < cells n → (kind_word n c == 0) ≡ (c == 0)
  zero_alike c h = same_true (kind_word n c == 0) (c == 0) (and_r (kind_word n c ≤? 12) (same (kind_word n c == 0) (c == 0)) (kind_test c h))

  -- cell 0 is the top, and no other cell is
  pub top_is_zero : 0 < cells n → kind_of n 0 ≡ top
  top_is_zero h = rw (eqb-true (kind_word n 0) 0 (zero_alike 0 h))

  pub only_top : (c : ℕ) → c < cells n → kind_of n c ≡ top → c ≡ 0
  only_top c h e = eqb-true c 0 (sym (zero_alike c h) ∙ eq-eqb (kind_word n c) 0 (top_number (kind_word n c) e))

  -- ---- second rule: the lists lie one behind the other
  starts_test : ((start_of n 0 == 0) ≡ true) × ((start_of n (cells n) == size n) ≡ true) × (every (λ c. start_of n c ≤? start_of n (c + 1)) (upto (cells n)) ≡ true)
  starts_test = three_true (start_of n 0 == 0) (start_of n (cells n) == size n) (every (λ c. start_of n c ≤? start_of n (c + 1)) (upto (cells n))) pins_pass.0

  pub first_start : start_of n 0 ≡ 0
  first_start = eqb-true (start_of n 0) 0 starts_test.0

  pub last_start : start_of n (cells n) ≡ size n
  last_start = eqb-true (start_of n (cells n)) (size n) starts_test.1

  pub starts_rise : (c : ℕ) → c < cells n → start_of n c ≤ start_of n (c + 1)
  starts_rise c h = leb-true (start_of n c) (start_of n (c + 1)) (of_upto (λ k. start_of n k ≤? start_of n (k + 1)) (cells n) c starts_test.2 h)

  -- ---- second rule: pins and their cells
  pin_test : (p : ℕ) → p < size n → ((cell_of n p <? cells n) ≡ true) × ((net_of n p <? net_count n) ≡ true) × ((direction_of n p ≤? 1) ≡ true) × ((count p (pins_of n (cell_of n p)) == 1) ≡ true)
  pin_test p h = four_true (cell_of n p <? cells n) (net_of n p <? net_count n) (direction_of n p ≤? 1) (count p (pins_of n (cell_of n p)) == 1)
      (of_upto (pin_fits n) (size n) p pins_pass.1 h)

  pub cell_fits : (p : ℕ) → p < size n → cell_of n p < cells n
  cell_fits p h = ltb-true (cell_of n p) (cells n) (pin_test p h).0

  pub net_fits_lem : (p : ℕ) → p < size n → net_of n p < net_count n
  net_fits_lem p h = ltb-true (net_of n p) (net_count n) (pin_test p h).1

  pub direction_fits : (p : ℕ) → p < size n → direction_of n p ≤ 1
  direction_fits p h = leb-true (direction_of n p) 1 (pin_test p h).2

  -- a pin stands once in its own cell's list
  pub own_cell : (p : ℕ) → p < size n → count p (pins_of n (cell_of n p)) ≡ 1
  own_cell p h = eqb-true (count p (pins_of n (cell_of n p))) 1 (pin_test p h).3

  -- and a cell's list names its own pins alone
  pub in_cell : (c p : ℕ) → c < cells n → 0 < count p (pins_of n c) → (p < size n) × (cell_of n p ≡ c)
  in_cell c p h m =
      let w : ((p <? size n) && (cell_of n p == c)) ≡ true = every_true (λ x. (x <? size n) && (cell_of n x == c)) p (pins_of n c) (of_upto (list_fits n) (cells n) c pins_pass.2 h) m in
      (ltb-true p (size n) (and_l (p <? size n) (cell_of n p == c) w), eqb-true (cell_of n p) c (and_r (p <? size n) (cell_of n p == c) w))

  pub in_keep : (f : ℕ → Bool) (c p : ℕ) → c < cells n → 0 < count p (keep f (pins_of n c)) → p < size n
  in_keep f c p h m = (in_cell c p h (omega (arith, m, keep_le f p (pins_of n c)))).0

  -- a pin in its own cell's list, by name, and by name and bit
  pub own_name : (p m : ℕ) → p < size n → name_of n p ≡ m → 0 < count p (named n (cell_of n p) m)
  own_name p m h e = rw (count-keep (λ q. name_of n q == m) p (pins_of n (cell_of n p)) (eq-eqb (name_of n p) m e)) (omega (arith, own_cell p h))

  pub own-bit : (p m b : ℕ) → p < size n → name_of n p ≡ m → bit_of n p ≡ b → 0 < count p (named_bit n (cell_of n p) m b)
  own-bit p m b h e eb = rw (count-keep (λ q. (name_of n q == m) && (bit_of n q == b)) p (pins_of n (cell_of n p)) (rw (eq-eqb (name_of n p) m e, eq-eqb (bit_of n p) b eb)))
      (omega (arith, own_cell p h))

  -- a pin of a cell that has a name
  pub of_name : (c p m : ℕ) → c < cells n → 0 < count p (named n c m) → (p < size n) × (cell_of n p ≡ c) × (name_of n p ≡ m)
  of_name c p m h w =
      let a = in_cell c p h (omega (arith, w, keep_le (λ q. name_of n q == m) p (pins_of n c))) in
      (a.0, a.1, eqb-true (name_of n p) m (keep_true (λ q. name_of n q == m) p (pins_of n c) w))

  -- ---- fourth rule: required pins are there
  must_have : (c : ℕ) (k : Kind) → kind_of n c ≡ k → c < cells n → every (λ (s : Slot). not s.must || (0 <? length (named n c s.name))) (slots k) ≡ true
  must_have c k e h = subst (λ (k' : Kind). every (λ (s : Slot). not s.must || (0 <? length (named n c s.name))) (slots k') ≡ true) e
      (of_upto (has_must n) (cells n) c pins_pass.4 h)

  there_is : (c m : ℕ) → (0 <? length (named n c m)) ≡ true → 0 < count (pin_named n c m) (named n c m)
  there_is c m t = first (named n c m) (ltb-true 0 (length (named n c m)) t)
    where
      first : (l : List ℕ) → 0 < length l → 0 < count (get_or l 0 0) l
      first [] h = absurd (omega arith)
      first (x ∷ l) h = here x l

  pub and_has_A : (c : ℕ) (x y z : Bool) → kind_of n c ≡ and2 x y z → c < cells n → 0 < count (pin_named n c #A) (named n c #A)
  and_has_A c x y z e h = there_is c #A (and_l (0 <? length (named n c #A)) _ (must_have c (and2 x y z) e h))

  pub and_has_B : (c : ℕ) (x y z : Bool) → kind_of n c ≡ and2 x y z → c < cells n → 0 < count (pin_named n c #B) (named n c #B)
  and_has_B c x y z e h = there_is c #B (and_l (0 <? length (named n c #B)) _ (and_r (0 <? length (named n c #A)) _ (must_have c (and2 x y z) e h)))

  pub inv_has_A : (c : ℕ) → kind_of n c ≡ inv → c < cells n → 0 < count (pin_named n c #A) (named n c #A)
  inv_has_A c e h = there_is c #A (and_l (0 <? length (named n c #A)) _ (must_have c inv e h))

  pub buf_has_A : (c : ℕ) → kind_of n c ≡ buf → c < cells n → 0 < count (pin_named n c #A) (named n c #A)
  buf_has_A c e h = there_is c #A (and_l (0 <? length (named n c #A)) _ (must_have c buf e h))

  pub gate_has_CP : (c : ℕ) → kind_of n c ≡ clock_gate → c < cells n → 0 < count (pin_named n c #CP) (named n c #CP)
  gate_has_CP c e h = there_is c #CP (and_l (0 <? length (named n c #CP)) _ (must_have c clock_gate e h))

  pub gate_has_E : (c : ℕ) → kind_of n c ≡ clock_gate → c < cells n → 0 < count (pin_named n c #E) (named n c #E)
  gate_has_E c e h = there_is c #E (and_l (0 <? length (named n c #E)) _ (and_r (0 <? length (named n c #CP)) _ (must_have c clock_gate e h)))

  pub dff_has_OUT : (c : ℕ) → kind_of n c ≡ dff → c < cells n → 0 < count (pin_named n c #OUT) (named n c #OUT)
  dff_has_OUT c e h = there_is c #OUT (and_l (0 <? length (named n c #OUT)) _ (must_have c dff e h))

  -- ---- fourth rule: no other pin, and none twice
  -- a pin of a cell other than the top is one that its kind may have, and stands alone under its name and bit
  allowed : (p : ℕ) → p < size n → (kind_of n (cell_of n p) ≡ top → ⊥)
      → (any (in_slot n p) (slots (kind_of n (cell_of n p))) ≡ true) × (length (named_bit n (cell_of n p) (name_of n p) (bit_of n p)) ≡ 1)
  allowed p h ne =
      let slot : Bool = any (in_slot n p) (slots (kind_of n (cell_of n p))) in
      let first : Bool = cell_of n p == 0 in
      let last : Bool = length (named_bit n (cell_of n p) (name_of n p) (bit_of n p)) == 1 in
      let w : (slot && (first || last)) ≡ true = of_upto (pin_allowed n) (size n) p pins_pass.3 h in (
        and_l slot (first || last) w,
        or_cases first last (and_r slot (first || last) w)
            (λ t. absurd (ne (subst (λ (c : ℕ). kind_of n c ≡ top) (sym (eqb-true (cell_of n p) 0 t)) (top_is_zero (omega (arith, cell_fits p h))))))
            (λ t. eqb-true (length (named_bit n (cell_of n p) (name_of n p) (bit_of n p))) 1 t),
      )

  pub slot_of : (k : Kind) → (k ≡ top → ⊥) → (p : ℕ) → p < size n → kind_of n (cell_of n p) ≡ k → any (in_slot n p) (slots k) ≡ true
  slot_of k ne p h e = subst (λ (x : Kind). any (in_slot n p) (slots x) ≡ true) e (allowed p h (λ e'. ne (sym e ∙ e'))).0

  -- so it is told by its cell, name and bit
  pub same_pin : (p q : ℕ) → p < size n → q < size n → (kind_of n (cell_of n p) ≡ top → ⊥)
      → cell_of n p ≡ cell_of n q → name_of n p ≡ name_of n q → bit_of n p ≡ bit_of n q → p ≡ q
  same_pin p q hp hq ne ec en eb = only_one (named_bit n (cell_of n p) (name_of n p) (bit_of n p)) p q (allowed p hp ne).1 (own-bit p (name_of n p) (bit_of n p) hp refl refl)
      (subst (λ (c : ℕ). 0 < count q (named_bit n c (name_of n p) (bit_of n p))) (sym ec) (own-bit q (name_of n p) (bit_of n p) hq (sym en) (sym eb)))

  -- an out pin of a cell with one output is that output
  pub out_name : (k : Kind) → (k ≡ top → ⊥) → (p : ℕ) → p < size n → kind_of n (cell_of n p) ≡ k
      → (any (in_slot n p) (slots k) ≡ true → (((name_of n p == #OUT) && (bit_of n p <? 1)) || false) ≡ true) → (name_of n p ≡ #OUT) × (bit_of n p ≡ 0)
  out_name k ne p h e f = or_cases ((name_of n p == #OUT) && (bit_of n p <? 1)) false (f (slot_of k ne p h e))
      (λ y. (eqb-true (name_of n p) #OUT (and_l (name_of n p == #OUT) (bit_of n p <? 1) y), omega (arith, ltb-true (bit_of n p) 1 (and_r (name_of n p == #OUT) (bit_of n p <? 1) y))))
      (λ y. true≢false false y refl)

  -- an out pin of a RAM is one of 32 bits of read data
  pub data_name : (p : ℕ) → p < size n → is_out n p ≡ true → kind_of n (cell_of n p) ≡ ram → (name_of n p ≡ #R_DATA) × (bit_of n p < 32)
  data_name p h t e =
      let w : (((name_of n p == #R_DATA) && (bit_of n p <? 32)) || false) ≡ true = rw t at (slot_of ram (λ e'. clash (cc)) p h e) in
      or_cases ((name_of n p == #R_DATA) && (bit_of n p <? 32)) false w
      (λ y. (eqb-true (name_of n p) #R_DATA (and_l (name_of n p == #R_DATA) (bit_of n p <? 32) y), ltb-true (bit_of n p) 32 (and_r (name_of n p == #R_DATA) (bit_of n p <? 32) y)))
      (λ y. true≢false false y refl)

  -- ---- third rule: a driven net has a driver, an out pin on it, and an out pin drives its net
  pub net_driver : (t q : ℕ) → t < net_count n → net_word n t ≡ suc (suc q) → (q < size n) × (is_out n q ≡ true) × (net_of n q ≡ t)
  net_driver t q h e =
      let e' : net_word n t - 2 ≡ q = omega (arith, e) in
      or_cases (net_word n t <? 2) ((net_word n t - 2 <? size n) && is_out n (net_word n t - 2) && (net_of n (net_word n t - 2) == t))
      (of_upto (net_fits n) (net_count n) t (and_l (every (net_fits n) (upto (net_count n))) (every (drives n) (upto (size n))) tests_pass.3) h)
      (λ y. absurd (omega (arith, ltb-true (net_word n t) 2 y)))
      (λ y. let w = three_true (q <? size n) (is_out n q) (net_of n q == t) (rw e' at y) in (ltb-true q (size n) w.0, w.1, eqb-true (net_of n q) t w.2))

  pub drives_net : (p : ℕ) → p < size n → is_out n p ≡ true → net_word n (net_of n p) ≡ 2 + p
  drives_net p h t = or_cases (not (is_out n p)) (net_word n (net_of n p) == 2 + p)
      (of_upto (drives n) (size n) p (and_r (every (net_fits n) (upto (net_count n))) (every (drives n) (upto (size n))) tests_pass.3) h)
      (λ y. true≢false (is_out n p) t (not-true (is_out n p) y))
      (λ y. eqb-true (net_word n (net_of n p)) (2 + p) y)
