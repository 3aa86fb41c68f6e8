-- The words of a RAM's row, in the code's shape.
use mathlib.Core.Path.{◌≡◌, refl, sym, ap, ap₂, subst, ◌∙◌}
use mathlib.Core.Bool.{Bool, true, false}
use mathlib.Core.List.{List, ◌∷◌}
use Prim.Native.Nat.{ℕ, ◌+◌, ◌-◌, ◌*◌, ◌/◌, ◌<◌, ◌≤◌}
use native.Mathlib.Numerals.{add-one}
use native.Mathlib.Omega.{arith}
use lib.ListN.{length, get_or, take, drop, set}
use lib.Seq.{drop-cons, drop-length}
use borrow.Author.Tests.{eq-eqb, ne_eqb, lt-ltb, ltb-true}
use Rattle.laws.proofs.Tests.{by_test}
use Rattle.std.specs.Prelude.{Option, Some, None, ◌==◌}
use Rattle.laws.specs.Tests.{◌<?◌}
use Rattle.laws.specs.Lists.{keep}
use Rattle.laws.specs.Words.{part}
use Rattle.laws.proofs.Words.{part_length, part_at}
use Rattle.rules.specs.Netlist.{Netlist, named_bit, #R_ADDR, #R_DATA, #W_ADDR, #W_DATA, #W_EN}
use Rattle.rules.proofs.Tables.{in_keep}
use Rattle.words.proofs.Tables.{Writing, writing_goes_on}
use Rattle.roles.specs.Reading.{Held, entry_of}
use Rattle.roles.proofs.Entries.{cell_held, entry_first, entry_none}
use Rattle.roles.proofs.Fitting.{laid}
use Rattle.literals.proofs.Settling.{first_some, first_none}
use Rattle.activity.specs.Traced.{lits}
use Rattle.activity.proofs.Tracing.{entry_in}
use Rattle.flops.specs.Flopped.{Known}
use Rattle.rows.specs.Words.{has_bit, bit_lit, plain_word}

-- ---- one pin
module _ (pins : List ℕ) (p name bit : ℕ) where
  pub other_name : (get_or pins (5 * p + 1) 0 ≡ name → ⊥) → false ≡ has_bit pins name bit p
  other_name m = rw (ne_eqb (get_or pins (5 * p + 1) 0) name m)

  pub same_name : get_or pins (5 * p + 1) 0 ≡ name → (get_or pins (5 * p + 2) 0 == bit) ≡ has_bit pins name bit p
  same_name e = rw (eq-eqb (get_or pins (5 * p + 1) 0) name e)

-- ---- the first of a list that passes a test
pub record Scanning (f : ℕ → Bool) (list : List ℕ) (from n i : ℕ) : Type 0 where
  pub inside : i ≤ n
  pub rest : entry_of (keep f (drop i (take n (drop from list)))) 0 ≡ entry_of (keep f (take n (drop from list))) 0

pub scanning_begins : (f : ℕ → Bool) (list : List ℕ) (from n : ℕ) → Scanning f list from n 0
scanning_begins f list from n = record { inside = omega arith; rest = refl }

module _ (list pins : List ℕ) (name bit from n i : ℕ) (h : Held list pins from n) (s : Scanning (has_bit pins name bit) list from n i) where
  abbrev f : ℕ → Bool
  f = has_bit pins name bit

  abbrev whole : List ℕ
  whole = take n (drop from list)

  whole_length : length whole ≡ n
  unfolding part
  whole_length = part_length list from n h.fits

  pub scanning_ends : n ≤ i → None ≡ entry_of (keep (has_bit pins name bit) (take n (drop from list))) 0
  scanning_ends l =
      let e : i ≡ length whole = omega (arith, s.inside, l, whole_length) in
      sym (entry_none 0) ∙ ap (λ (x : List ℕ). entry_of (keep f x) 0) (sym (drop-length whole) ∙ ap (λ (j : ℕ). drop j whole) (sym e)) ∙ s.rest

  module _ (l : i < n) where
    abbrev this : ℕ
    this = get_or list (from + i) 0

    cons : drop i whole ≡ this ∷ drop (i + 1) whole
    unfolding part
    cons = drop-cons whole i 0 (omega (arith, l, whole_length)) ∙ ap₂ (λ (x : ℕ) (j : ℕ). x ∷ drop j whole) (part_at list from n i l) (sym (add-one i))

    unfolded : entry_of (keep f (this ∷ drop (i + 1) whole)) 0 ≡ entry_of (keep f whole) 0
    unfolded = ap (λ (t : List ℕ). entry_of (keep f t) 0) (sym cons) ∙ s.rest

    pub entry_held : 5 * get_or list (from + i) 0 + 4 < length pins
    entry_held = h.entries i l

    module _ (hit : Bool) (e : hit ≡ has_bit pins name bit (get_or list (from + i) 0)) where
      pub scanning_found : hit ≡ true → Some (get_or list (from + i) 0) ≡ entry_of (keep (has_bit pins name bit) (take n (drop from list))) 0
      scanning_found t = sym (entry_first this (keep f (drop (i + 1) whole))) ∙ ap (λ (x : List ℕ). entry_of x 0) (kept (sym e ∙ t)) ∙ unfolded
        where
          kept : f this ≡ true → this ∷ keep f (drop (i + 1) whole) ≡ keep f (this ∷ drop (i + 1) whole)
          kept q = rw q

      pub scanning_goes_on : hit ≡ false → Scanning (has_bit pins name bit) list from n (i + 1)
      scanning_goes_on t = record { inside = omega (arith, l); rest = ap (λ (x : List ℕ). entry_of x 0) (passed (sym e ∙ t)) ∙ unfolded }
        where
          passed : f this ≡ false → keep f (drop (i + 1) whole) ≡ keep f (this ∷ drop (i + 1) whole)
          passed q = rw q

-- ---- the literal of a cell's pin
module _ (n : Netlist) (w : List ℕ) (c from end : ℕ) (k : Known n w) (l : c < length n.kinds)
    (ef : from ≡ get_or n.starts c 0) (ee : end ≡ get_or n.starts (c + 1) 0) where
  long : c + 1 < length n.starts
  long = omega (arith, l, k.fits.starts_long)

  pub from_below : from ≤ end
  from_below = omega (arith, ef, ee, (laid n.kinds n.starts n.list n.pins n.nets k.fits).rise c long)

  pub list_held : Held n.list n.pins from (end - from)
  list_held = subst (λ (x : ℕ). Held n.list n.pins x (end - x)) (sym ef) (subst (λ (y : ℕ). Held n.list n.pins (get_or n.starts c 0) (y - get_or n.starts c 0)) (sym ee)
      (cell_held n.starts n.list n.pins c (laid n.kinds n.starts n.list n.pins n.nets k.fits) long))

  module _ (name bit : ℕ) (found : Option ℕ) (h : found ≡ entry_of (keep (has_bit n.pins name bit) (take (end - from) (drop from n.list))) 0) where
    by_bit : found ≡ entry_of (named_bit n c name bit) 0
    by_bit = h ∙ ap₂ (λ (x y : ℕ). entry_of (keep (has_bit n.pins name bit) (take (y - x) (drop x n.list))) 0) ef ee

    module _ (p : ℕ) (e : found ≡ Some p) where
      inside : p < length n.list
      inside = in_keep n k.accepted.tables (has_bit n.pins name bit) c p l (entry_in (named_bit n c name bit) 0 p (sym by_bit ∙ e))

      pub bit_place : 7 * length n.list + p < length w
      bit_place = omega (arith, inside, k.wide)

      pub bit-told : (r : ℕ) → r ≡ get_or w (7 * length n.list + p) 0 → r ≡ bit_lit n c name bit
      bit-told r er = er ∙ k.written.lits p inside ∙ first_some 0 (lits n) (named_bit n c name bit) p (sym e ∙ by_bit)

    pub bit-none : found ≡ None → 0 ≡ bit_lit n c name bit
    bit-none e = first_none 0 (lits n) (named_bit n c name bit) (sym e ∙ by_bit)

-- ---- a word of the row
module _ (m : Netlist) (c j : ℕ) where
  ge_ltb : (i k : ℕ) → k ≤ i → (i <? k) ≡ false
  ge_ltb i k l = by_test (i <? k) (λ t. absurd (omega (arith, l, ltb-true i k t))) (λ f. f)

  pub word_zero : j ≡ 0 → 0 ≡ plain_word m c j
  unfolding plain_word
  word_zero e = rw (eq-eqb j 0 e)

  module _ (z : j ≡ 0 → ⊥) where
    pub word_read : j < 14 → (r : ℕ) → r ≡ bit_lit m c #R_ADDR (j - 1) → r ≡ plain_word m c j
    unfolding plain_word
    word_read l r e = e ∙ rw (ne_eqb j 0 z, lt-ltb j 14 l)

    module _ (a : 14 ≤ j) where
      pub word_data : j < 46 → (lit : ℕ) → lit ≡ bit_lit m c #R_DATA (j - 14) → lit / 2 ≡ plain_word m c j
      unfolding plain_word
      word_data l lit e = ap (λ (x : ℕ). x / 2) e ∙ rw (ne_eqb j 0 z, ge_ltb j 14 a, lt-ltb j 46 l)

      module _ (b : 46 ≤ j) where
        pub word_write : j < 59 → (r : ℕ) → r ≡ bit_lit m c #W_ADDR (j - 46) → r ≡ plain_word m c j
        unfolding plain_word
        word_write l r e = e ∙ rw (ne_eqb j 0 z, ge_ltb j 14 a, ge_ltb j 46 b, lt-ltb j 59 l)

        module _ (d : 59 ≤ j) where
          pub word_enable : j < 91 → (r : ℕ) → r ≡ bit_lit m c #W_EN (j - 59) → r ≡ plain_word m c j
          unfolding plain_word
          word_enable l r e = e ∙ rw (ne_eqb j 0 z, ge_ltb j 14 a, ge_ltb j 46 b, ge_ltb j 59 d, lt-ltb j 91 l)

          pub word_last : 91 ≤ j → (r : ℕ) → r ≡ bit_lit m c #W_DATA (j - 91) → r ≡ plain_word m c j
          unfolding plain_word
          word_last l r e = e ∙ rw (ne_eqb j 0 z, ge_ltb j 14 a, ge_ltb j 46 b, ge_ltb j 59 d, ge_ltb j 91 l)

-- ---- the row
module _ (t : List ℕ) (from : ℕ) (g : ℕ → ℕ) (j : ℕ) (s : List ℕ) (h : Writing t from g j s) where
  pub row_goes_on : (v : ℕ) → j < 123 → from + 123 ≤ length t → v ≡ g j → Writing t from g (j + 1) (set s (from + j) v)
  row_goes_on v l r e = writing_goes_on t from g j s v h (omega (arith, l, r)) e

  pub row_ends : j ≤ 123 → 123 ≤ j → Writing t from g 123 s
  row_ends a b = let e : j ≡ 123 = omega (arith, a, b) in subst (λ (i : ℕ). Writing t from g i s) e h
