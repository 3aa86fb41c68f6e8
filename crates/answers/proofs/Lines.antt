-- Rows, drivers and stages, a line at a time.
use mathlib.Core.Path.{◌≡◌, refl, sym, ◌∙◌, ap, subst}
use mathlib.Core.List.{List, [], ◌∷◌, ◌++◌}
use Prim.Native.Nat.{ℕ, zero, suc, ◌+◌, ◌-◌, ◌*◌, ◌<◌, ◌≤◌, min}
use native.Mathlib.Omega.{arith}
use borrow.Author.Tests.{eq-eqb, ne_eqb, leb-true, leb-false}
use lib.ListN.{length, get_or, take, drop}
use lib.Seq.{drop-drop}
use Rattle.laws.specs.Tests.{◌≤?◌}
use Rattle.laws.specs.Words.{part}
use Rattle.laws.proofs.Tests.{by_test}
use Rattle.answers.specs.Printing.{Printed, field_bytes, line_bytes, rows_bytes, numbered_bytes}
use Rattle.answers.specs.Answer.{const_word, and_word, port_word, flag_word, dff_word, ram_word, driver_word, rising_end, falling_end, flag_bytes, source_bytes, driver_bytes, driver_at, drivers_bytes, stage_word, hand_word, ends_word, open_end, ends_bytes, stage_at, stages_bytes}
use Rattle.answers.proofs.Placing.{Printing, printing_begins, printing_more, printing_ends, printed_then, drop-none}

-- a count that falls by one
falls : (n i : ℕ) → i < n → n - i ≡ suc (n - (i + 1))
falls n i l = omega arith

-- ---- rows
rows_first : (label : List ℕ) (width n : ℕ) (ns : List ℕ) → rows_bytes label width (suc n) ns ≡ line_bytes label (take width ns) ++ rows_bytes label width n (drop width ns)
unfolding rows_bytes
rows_first label width n ns = refl

rows_over : (label : List ℕ) (width n : ℕ) (ns : List ℕ) → n ≤ 0 → rows_bytes label width n ns ≡ []
unfolding rows_bytes
rows_over label width zero ns l = refl
rows_over label width (suc n) ns l = absurd (omega (arith, l))

pub record Rows (out : List ℕ) (at : ℕ) (label ns : List ℕ) (width n : ℕ) (out₁ : List ℕ) (a from i : ℕ) : Type 0 where
  pub printing : Printing out at (rows_bytes label width n ns) out₁ a (rows_bytes label width (n - i) (drop from ns))
  pub inside : from ≤ length ns

pub rows_begin : (out : List ℕ) (at : ℕ) (label ns : List ℕ) (width n : ℕ) → Rows out at label ns width n out at 0 0
rows_begin out at label ns width n =
    let e : n - 0 ≡ n = omega arith in
    record {
      printing = subst (λ (k : ℕ). Printing out at (rows_bytes label width n ns) out at (rows_bytes label width k ns)) (sym e) (printing_begins out at (rows_bytes label width n ns));
      inside = omega arith;
    }

module _ (out : List ℕ) (at : ℕ) (label ns : List ℕ) (width n : ℕ) (out₁ : List ℕ) (a from i : ℕ) (g : Rows out at label ns width n out₁ a from i) where
  pub rows_go_on : (out₂ : List ℕ) (b from' : ℕ) → i < n → Printed out₁ a (line_bytes label (part ns from width)) out₂ b
      → from' ≡ min (from + width) (length ns) → Rows out at label ns width n out₂ b from' (i + 1)
  unfolding part
  rows_go_on out₂ b from' l p e = record {
    printing = printing_more out at (rows_bytes label width n ns) out₁ a (rows_bytes label width (n - i) (drop from ns)) g.printing
        (line_bytes label (take width (drop from ns))) (rows_bytes label width (n - (i + 1)) (drop from' ns)) out₂ b next p;
    inside = omega (arith, e);
  }
    where
      moved : drop width (drop from ns) ≡ drop from' ns
      moved = drop-drop width from ns ∙ by_test (from + width ≤? length ns)
          (λ t. let q : from + width ≡ from' = omega (arith, e, leb-true (from + width) (length ns) t) in ap (λ (k : ℕ). drop k ns) q)
          (λ f. drop-none (from + width) ns (omega (arith, leb-false (from + width) (length ns) f)) ∙ sym (drop-none from' ns (omega (arith, e, leb-false (from + width) (length ns) f))))

      next : rows_bytes label width (n - i) (drop from ns) ≡ line_bytes label (take width (drop from ns)) ++ rows_bytes label width (n - (i + 1)) (drop from' ns)
      next = ap (λ (k : ℕ). rows_bytes label width k (drop from ns)) (falls n i l) ∙ rows_first label width (n - (i + 1)) (drop from ns)
          ∙ ap (λ (r : List ℕ). line_bytes label (take width (drop from ns)) ++ rows_bytes label width (n - (i + 1)) r) moved

  pub rows_end : n ≤ i → Printed out at (rows_bytes label width n ns) out₁ a
  rows_end l = printing_ends out at (rows_bytes label width n ns) out₁ a (rows_bytes label width (n - i) (drop from ns)) g.printing (rows_over label width (n - i) (drop from ns) (omega arith))

-- ---- numbered lines
numbered_first : (label ns : List ℕ) (i n : ℕ) → numbered_bytes label ns i (suc n) ≡ line_bytes label (i ∷ get_or ns i 0 ∷ []) ++ numbered_bytes label ns (i + 1) n
unfolding numbered_bytes
numbered_first label ns i n = refl

numbered-over : (label ns : List ℕ) (i n : ℕ) → n ≤ 0 → numbered_bytes label ns i n ≡ []
unfolding numbered_bytes
numbered-over label ns i zero l = refl
numbered-over label ns i (suc n) l = absurd (omega (arith, l))

pub record Numbered (out : List ℕ) (at : ℕ) (label ns : List ℕ) (n : ℕ) (out₁ : List ℕ) (a i : ℕ) : Type 0 where
  pub printing : Printing out at (numbered_bytes label ns 0 n) out₁ a (numbered_bytes label ns i (n - i))
  pub inside : i ≤ n

pub numbered_begin : (out : List ℕ) (at : ℕ) (label ns : List ℕ) (n : ℕ) → Numbered out at label ns n out at 0
numbered_begin out at label ns n =
    let e : n - 0 ≡ n = omega arith in
    record {
      printing = subst (λ (k : ℕ). Printing out at (numbered_bytes label ns 0 n) out at (numbered_bytes label ns 0 k)) (sym e) (printing_begins out at (numbered_bytes label ns 0 n));
      inside = omega arith;
    }

module _ (out : List ℕ) (at : ℕ) (label ns : List ℕ) (n : ℕ) (out₁ : List ℕ) (a i : ℕ) (g : Numbered out at label ns n out₁ a i) where
  pub numbered_go_on : (v : ℕ) (out₂ : List ℕ) (b : ℕ) → i < n → v ≡ get_or ns i 0 → Printed out₁ a (line_bytes label (i ∷ v ∷ [])) out₂ b → Numbered out at label ns n out₂ b (i + 1)
  numbered_go_on v out₂ b l e p = record {
    printing = printing_more out at (numbered_bytes label ns 0 n) out₁ a (numbered_bytes label ns i (n - i)) g.printing
        (line_bytes label (i ∷ v ∷ [])) (numbered_bytes label ns (i + 1) (n - (i + 1))) out₂ b
        (ap (λ (k : ℕ). numbered_bytes label ns i k) (falls n i l) ∙ numbered_first label ns i (n - (i + 1))
        ∙ ap (λ (k : ℕ). line_bytes label (i ∷ k ∷ []) ++ numbered_bytes label ns (i + 1) (n - (i + 1))) (sym e)) p;
    inside = omega arith;
  }

  pub numbered_end : n ≤ i → Printed out at (numbered_bytes label ns 0 n) out₁ a
  numbered_end l = printing_ends out at (numbered_bytes label ns 0 n) out₁ a (numbered_bytes label ns i (n - i)) g.printing (numbered-over label ns i (n - i) (omega arith))

-- ---- drivers
module _ (out : List ℕ) (at a b : ℕ) (out₁ : List ℕ) (p : ℕ) (out₂ : List ℕ) (q : ℕ) (out₃ : List ℕ) (r : ℕ)
    (word : Printed out at flag_word out₁ p) (field : Printed out₁ p (field_bytes a) out₂ q) where
  pub printed_rising : b ≡ 0 → Printed out₂ q rising_end out₃ r → Printed out at (flag_bytes a b) out₃ r
  unfolding flag_bytes
  printed_rising e w = rw (eq-eqb b 0 e) (printed_then out at flag_word (field_bytes a ++ rising_end) out₁ p out₃ r word (printed_then out₁ p (field_bytes a) rising_end out₂ q out₃ r field w))

  pub printed_falling : (b ≡ 0 → ⊥) → Printed out₂ q falling_end out₃ r → Printed out at (flag_bytes a b) out₃ r
  unfolding flag_bytes
  printed_falling e w = rw (ne_eqb b 0 e) (printed_then out at flag_word (field_bytes a ++ falling_end) out₁ p out₃ r word (printed_then out₁ p (field_bytes a) falling_end out₂ q out₃ r field w))

module _ (out : List ℕ) (at tag a b : ℕ) (out₁ : List ℕ) (r : ℕ) where
  pub source_const : tag ≡ 0 → Printed out at (line_bytes const_word []) out₁ r → Printed out at (source_bytes tag a b) out₁ r
  unfolding source_bytes
  source_const e w = rw e w

  pub source_and : tag ≡ 1 → Printed out at (line_bytes and_word (a ∷ b ∷ [])) out₁ r → Printed out at (source_bytes tag a b) out₁ r
  unfolding source_bytes
  source_and e w = rw e w

  pub source_port : tag ≡ 2 → Printed out at (line_bytes port_word (a ∷ [])) out₁ r → Printed out at (source_bytes tag a b) out₁ r
  unfolding source_bytes
  source_port e w = rw e w

  pub source_flag : tag ≡ 3 → Printed out at (flag_bytes a b) out₁ r → Printed out at (source_bytes tag a b) out₁ r
  unfolding source_bytes
  source_flag e w = rw e w

  pub source_dff : tag ≡ 4 → Printed out at (line_bytes dff_word (a ∷ [])) out₁ r → Printed out at (source_bytes tag a b) out₁ r
  unfolding source_bytes
  source_dff e w = rw e w

  pub source_ram : (tag ≡ 0 → ⊥) → (tag ≡ 1 → ⊥) → (tag ≡ 2 → ⊥) → (tag ≡ 3 → ⊥) → (tag ≡ 4 → ⊥)
      → Printed out at (line_bytes ram_word (a ∷ [])) out₁ r → Printed out at (source_bytes tag a b) out₁ r
  unfolding source_bytes
  source_ram n0 n1 n2 n3 n4 w = rw (ne_eqb tag 0 n0, ne_eqb tag 1 n1, ne_eqb tag 2 n2, ne_eqb tag 3 n3, ne_eqb tag 4 n4) w

pub printed_driver : (out : List ℕ) (at i tag a b : ℕ) (out₁ : List ℕ) (p : ℕ) (out₂ : List ℕ) (q : ℕ) (out₃ : List ℕ) (s : ℕ) (out₄ : List ℕ) (r : ℕ)
    → Printed out at driver_word out₁ p → Printed out₁ p (field_bytes i) out₂ q → Printed out₂ q (9 ∷ []) out₃ s → Printed out₃ s (source_bytes tag a b) out₄ r
    → Printed out at (driver_bytes i tag a b) out₄ r
unfolding driver_bytes
printed_driver out at i tag a b out₁ p out₂ q out₃ s out₄ r w x y z =
    printed_then out at driver_word (field_bytes i ++ ((9 ∷ []) ++ source_bytes tag a b)) out₁ p out₄ r w
    (printed_then out₁ p (field_bytes i) ((9 ∷ []) ++ source_bytes tag a b) out₂ q out₄ r x
    (printed_then out₂ q (9 ∷ []) (source_bytes tag a b) out₃ s out₄ r y z))

pub printed_driver_at : (out : List ℕ) (at : ℕ) (ds : List ℕ) (i tag a b : ℕ) (out₁ : List ℕ) (r : ℕ) → tag ≡ get_or ds (3 * i) 0 → a ≡ get_or ds (3 * i + 1) 0 → b ≡ get_or ds (3 * i + 2) 0
    → Printed out at (driver_bytes i tag a b) out₁ r → Printed out at (driver_at ds i) out₁ r
unfolding driver_at
printed_driver_at out at ds i tag a b out₁ r et ea eb w =
    subst (λ (k : ℕ). Printed out at (driver_bytes i (get_or ds (3 * i) 0) (get_or ds (3 * i + 1) 0) k) out₁ r) eb
    (subst (λ (k : ℕ). Printed out at (driver_bytes i (get_or ds (3 * i) 0) k b) out₁ r) ea (subst (λ (k : ℕ). Printed out at (driver_bytes i k a b) out₁ r) et w))

drivers_first : (ds : List ℕ) (i n : ℕ) → drivers_bytes ds i (suc n) ≡ driver_at ds i ++ drivers_bytes ds (i + 1) n
unfolding drivers_bytes
drivers_first ds i n = refl

drivers_over : (ds : List ℕ) (i n : ℕ) → n ≤ 0 → drivers_bytes ds i n ≡ []
unfolding drivers_bytes
drivers_over ds i zero l = refl
drivers_over ds i (suc n) l = absurd (omega (arith, l))

pub record Drivers (out : List ℕ) (at : ℕ) (ds : List ℕ) (n : ℕ) (out₁ : List ℕ) (a i : ℕ) : Type 0 where
  pub printing : Printing out at (drivers_bytes ds 0 n) out₁ a (drivers_bytes ds i (n - i))
  pub inside : i ≤ n

pub drivers_begin : (out : List ℕ) (at : ℕ) (ds : List ℕ) (n : ℕ) → Drivers out at ds n out at 0
drivers_begin out at ds n =
    let e : n - 0 ≡ n = omega arith in
    record {
      printing = subst (λ (k : ℕ). Printing out at (drivers_bytes ds 0 n) out at (drivers_bytes ds 0 k)) (sym e) (printing_begins out at (drivers_bytes ds 0 n));
      inside = omega arith;
    }

module _ (out : List ℕ) (at : ℕ) (ds : List ℕ) (n : ℕ) (out₁ : List ℕ) (p i : ℕ) (g : Drivers out at ds n out₁ p i) where
  pub drivers_go_on : (out₂ : List ℕ) (q : ℕ) → i < n → Printed out₁ p (driver_at ds i) out₂ q → Drivers out at ds n out₂ q (i + 1)
  drivers_go_on out₂ q l w = record {
    printing = printing_more out at (drivers_bytes ds 0 n) out₁ p (drivers_bytes ds i (n - i)) g.printing (driver_at ds i) (drivers_bytes ds (i + 1) (n - (i + 1))) out₂ q
        (ap (λ (k : ℕ). drivers_bytes ds i k) (falls n i l) ∙ drivers_first ds i (n - (i + 1))) w;
    inside = omega arith;
  }

  pub drivers_end : n ≤ i → Printed out at (drivers_bytes ds 0 n) out₁ p
  drivers_end l = printing_ends out at (drivers_bytes ds 0 n) out₁ p (drivers_bytes ds i (n - i)) g.printing (drivers_over ds i (n - i) (omega arith))

-- ---- stages
pub printed_open : (out : List ℕ) (at lower upper : ℕ) (out₁ : List ℕ) (p : ℕ) (out₂ : List ℕ) (q : ℕ) (out₃ : List ℕ) (r : ℕ)
    → upper ≡ 4294967295 → Printed out at stage_word out₁ p → Printed out₁ p (field_bytes lower) out₂ q → Printed out₂ q open_end out₃ r → Printed out at (ends_bytes lower upper) out₃ r
unfolding ends_bytes
printed_open out at lower upper out₁ p out₂ q out₃ r e w x y = rw (eq-eqb upper 4294967295 e)
    (printed_then out at stage_word (field_bytes lower ++ open_end) out₁ p out₃ r w (printed_then out₁ p (field_bytes lower) open_end out₂ q out₃ r x y))

pub printed_closed : (out : List ℕ) (at lower upper : ℕ) (out₁ : List ℕ) (r : ℕ) → (upper ≡ 4294967295 → ⊥) → Printed out at (line_bytes stage_word (lower ∷ upper ∷ [])) out₁ r → Printed out at (ends_bytes lower upper) out₁ r
unfolding ends_bytes
printed_closed out at lower upper out₁ r e w = rw (ne_eqb upper 4294967295 e) w

pub printed_stage : (out : List ℕ) (at : ℕ) (rows handed taken : List ℕ) (i h t lower upper nh nt : ℕ) (out₁ : List ℕ) (p : ℕ) (out₂ : List ℕ) (q : ℕ) (out₃ : List ℕ) (r : ℕ)
    → lower ≡ get_or rows (4 * i) 0 → upper ≡ get_or rows (4 * i + 1) 0 → nh ≡ get_or rows (4 * i + 2) 0 → nt ≡ get_or rows (4 * i + 3) 0
    → Printed out at (ends_bytes lower upper) out₁ p → Printed out₁ p (line_bytes hand_word (part handed h nh)) out₂ q → Printed out₂ q (line_bytes ends_word (part taken t nt)) out₃ r
    → Printed out at (stage_at rows handed taken i h t) out₃ r
unfolding stage_at
printed_stage out at rows handed taken i h t lower upper nh nt out₁ p out₂ q out₃ r el eu eh et x y z =
    printed_then out at (ends_bytes (get_or rows (4 * i) 0) (get_or rows (4 * i + 1) 0))
    (line_bytes hand_word (part handed h (get_or rows (4 * i + 2) 0)) ++ line_bytes ends_word (part taken t (get_or rows (4 * i + 3) 0))) out₁ p out₃ r
    (subst (λ (k : ℕ). Printed out at (ends_bytes (get_or rows (4 * i) 0) k) out₁ p) eu (subst (λ (k : ℕ). Printed out at (ends_bytes k upper) out₁ p) el x))
    (printed_then out₁ p (line_bytes hand_word (part handed h (get_or rows (4 * i + 2) 0))) (line_bytes ends_word (part taken t (get_or rows (4 * i + 3) 0))) out₂ q out₃ r
    (subst (λ (k : ℕ). Printed out₁ p (line_bytes hand_word (part handed h k)) out₂ q) eh y)
    (subst (λ (k : ℕ). Printed out₂ q (line_bytes ends_word (part taken t k)) out₃ r) et z))

stages_first : (rows handed taken : List ℕ) (i h t n : ℕ) → stages_bytes rows handed taken i h t (suc n)
    ≡ stage_at rows handed taken i h t ++ stages_bytes rows handed taken (i + 1) (h + get_or rows (4 * i + 2) 0) (t + get_or rows (4 * i + 3) 0) n
unfolding stages_bytes
stages_first rows handed taken i h t n = refl

stages-over : (rows handed taken : List ℕ) (i h t n : ℕ) → n ≤ 0 → stages_bytes rows handed taken i h t n ≡ []
unfolding stages_bytes
stages-over rows handed taken i h t zero l = refl
stages-over rows handed taken i h t (suc n) l = absurd (omega (arith, l))

pub record Stages (out : List ℕ) (at : ℕ) (rows handed taken : List ℕ) (n : ℕ) (out₁ : List ℕ) (p i h t : ℕ) : Type 0 where
  pub printing : Printing out at (stages_bytes rows handed taken 0 0 0 n) out₁ p (stages_bytes rows handed taken i h t (n - i))
  pub inside : i ≤ n
  pub few_handed : h ≤ 4294967295 * i
  pub few_taken : t ≤ 4294967295 * i

pub stages_begin : (out : List ℕ) (at : ℕ) (rows handed taken : List ℕ) (n : ℕ) → Stages out at rows handed taken n out at 0 0 0
stages_begin out at rows handed taken n =
    let e : n - 0 ≡ n = omega arith in
    record {
      printing = subst (λ (k : ℕ). Printing out at (stages_bytes rows handed taken 0 0 0 n) out at (stages_bytes rows handed taken 0 0 0 k)) (sym e) (printing_begins out at (stages_bytes rows handed taken 0 0 0 n));
      inside = omega arith;
      few_handed = omega arith;
      few_taken = omega arith;
    }

module _ (out : List ℕ) (at : ℕ) (rows handed taken : List ℕ) (n : ℕ) (out₁ : List ℕ) (p i h t : ℕ) (g : Stages out at rows handed taken n out₁ p i h t) where
  pub stages_go_on : (nh nt : ℕ) (out₂ : List ℕ) (q : ℕ) → i < n → Printed out₁ p (stage_at rows handed taken i h t) out₂ q
      → nh ≡ get_or rows (4 * i + 2) 0 → nt ≡ get_or rows (4 * i + 3) 0 → nh < 4294967296 → nt < 4294967296 → Stages out at rows handed taken n out₂ q (i + 1) (h + nh) (t + nt)
  stages_go_on nh nt out₂ q l w eh et bh bt = record {
    printing = printing_more out at (stages_bytes rows handed taken 0 0 0 n) out₁ p (stages_bytes rows handed taken i h t (n - i)) g.printing
        (stage_at rows handed taken i h t) (stages_bytes rows handed taken (i + 1) (h + nh) (t + nt) (n - (i + 1))) out₂ q
        (ap (λ (k : ℕ). stages_bytes rows handed taken i h t k) (falls n i l) ∙ stages_first rows handed taken i h t (n - (i + 1))
        ∙ ap (λ (k : ℕ). stage_at rows handed taken i h t ++ stages_bytes rows handed taken (i + 1) (h + k) (t + get_or rows (4 * i + 3) 0) (n - (i + 1))) (sym eh)
        ∙ ap (λ (k : ℕ). stage_at rows handed taken i h t ++ stages_bytes rows handed taken (i + 1) (h + nh) (t + k) (n - (i + 1))) (sym et)) w;
    inside = omega arith;
    few_handed = omega (arith, g.few_handed);
    few_taken = omega (arith, g.few_taken);
  }

  pub stages_end : n ≤ i → Printed out at (stages_bytes rows handed taken 0 0 0 n) out₁ p
  stages_end l = printing_ends out at (stages_bytes rows handed taken 0 0 0 n) out₁ p (stages_bytes rows handed taken i h t (n - i)) g.printing (stages-over rows handed taken i h t (n - i) (omega arith))
