-- Stamps by code, in the code's shape.
use mathlib.Core.Path.{◌≡◌, refl, sym, ◌∙◌, ap, subst}
use mathlib.Core.Bool.{Bool, true, false}
use mathlib.Core.List.{List}
use Prim.Native.Nat.{ℕ, ◌+◌, ◌*◌, ◌<◌, ◌≤◌}
use native.Mathlib.Omega.{arith}
use lib.ListN.{length, get_or, set, length-set}
use lib.Seq.{get_or-set_same, get_or-set_other}
use borrow.Author.Tests.{eqb-true, eqb-false}
use Rattle.std.specs.Prelude.{◌==◌}
use Rattle.laws.proofs.Tests.{by_test, true≢false}
use Rattle.marks.specs.Marking.{Clear}
use Rattle.pins.specs.Words.{pin_at}
use Rattle.repeats.specs.Alike.{code_of, cell_on, code_on, Stamped, of_top, again, new, Sorted, Looked, apart, alike}

-- the first j entries have left their stamps
pub record Stamping (list pins w₀ w : List ℕ) (base j : ℕ) : Type 0 where
  pub inside : j ≤ length list
  pub long : base + 544 ≤ length w
  pub same_length : length w ≡ length w₀
  -- a stamp is that of an entry with its code
  pub from : (k : ℕ) → k < 544 → (get_or w (base + k) 0 ≡ 0 → ⊥) → (i : ℕ) × (i < j) × (cell_on list pins i ≡ get_or w (base + k) 0) × (code_on list pins i ≡ k)
  -- and of the last of them
  pub last : (i : ℕ) → i < j → cell_on list pins i ≤ get_or w (base + code_on list pins i) 0
  pub none : (i k : ℕ) → i < k → k < j → (cell_on list pins k ≡ 0 → ⊥) → cell_on list pins i ≡ cell_on list pins k → code_on list pins i ≡ code_on list pins k → ⊥

pub stamping_begins : (list pins w : List ℕ) (base : ℕ) → Clear w base 544 → Stamping list pins w w base 0
stamping_begins list pins w base c = record {
  inside = omega arith;
  long = c.long;
  same_length = refl;
  from = λ k l n. absurd (n (c.none k l));
  last = λ i l. absurd (omega arith);
  none = λ i k l m. absurd (omega arith);
}

pub entry_long : (list pins : List ℕ) (j p : ℕ) → Sorted list pins → j < length list → p ≡ get_or list j 0 → 5 * p + 4 < length pins
entry_long list pins j p s l e = omega (arith, s.long, s.below j l)

pub code_small : (list pins : List ℕ) (j p code : ℕ) → Sorted list pins → j < length list → p ≡ get_or list j 0 → code ≡ code_of pins p → code < 544
code_small list pins j p code s l e ec =
    omega (arith, s.name j l, s.bit j l, ec ∙ ap (λ (q : ℕ). code_of pins q) e)

module _ (list pins w₀ w : List ℕ) (base j : ℕ) (s : Sorted list pins) (t : Stamping list pins w₀ w base j) (l : j < length list)
    (p code cell : ℕ) (ep : p ≡ get_or list j 0) (ec : code ≡ code_of pins p) (ee : cell ≡ pin_at pins 0 p) (w' : List ℕ) (r : Bool) where
  the_code : code ≡ code_on list pins j
  the_code = ec ∙ ap (λ (q : ℕ). code_of pins q) ep

  the_cell : cell ≡ cell_on list pins j
  the_cell = ee ∙ ap (λ (q : ℕ). pin_at pins 0 q) ep

  small : code < 544
  small = code_small list pins j p code s l ep ec

  -- the top leaves none
  as_top : cell ≡ 0 → Stamping list pins w₀ w base (j + 1)
  as_top z = record {
    inside = omega arith;
    long = t.long;
    same_length = t.same_length;
    from = λ k h n. let f = t.from k h n in (f.0, omega (arith, f.1), f.2, f.3);
    last = λ i h. by_test (i == j)
        (λ y. let e = eqb-true i j y in omega (arith, z, the_cell, ap (λ (x : ℕ). cell_on list pins x) e))
        (λ f. t.last i (omega (arith, h, eqb-false i j f)));
    none = λ i k a b c d e. by_test (k == j)
        (λ y. c (ap (λ (x : ℕ). cell_on list pins x) (eqb-true k j y) ∙ sym the_cell ∙ z))
        (λ f. t.none i k a (omega (arith, b, eqb-false k j f)) c d e);
  }

  -- an earlier entry of the same cell and code would have left the cell's stamp
  unlike : (cell ≡ 0 → ⊥) → (get_or w (base + code) 0 ≡ cell → ⊥) → (i : ℕ) → i < j → cell_on list pins i ≡ cell_on list pins j → code_on list pins i ≡ code_on list pins j → ⊥
  unlike nz ne i h e d =
      let a : cell_on list pins i ≤ get_or w (base + code) 0 = subst (λ (x : ℕ). cell_on list pins i ≤ get_or w (base + x) 0) (d ∙ sym the_code) (t.last i h) in
      let n : get_or w (base + code) 0 ≡ 0 → ⊥ = λ z. nz (omega (arith, a, z, e, the_cell)) in
      let f = t.from code small n in
      ne (omega (arith, a, e, the_cell, f.2, s.rise f.0 j f.1 l))

  as_new : (cell ≡ 0 → ⊥) → (get_or w (base + code) 0 ≡ cell → ⊥) → Stamping list pins w₀ (set w (base + code) cell) base (j + 1)
  as_new nz ne = record {
    inside = omega arith;
    long = rw (length-set w (base + code) cell) t.long;
    same_length = length-set w (base + code) cell ∙ t.same_length;
    from = λ k h n. by_test (k == code)
        (λ y. let e = eqb-true k code y in
        let v : get_or (set w (base + code) cell) (base + k) 0 ≡ cell = ap (λ (x : ℕ). get_or (set w (base + code) cell) (base + x) 0) e ∙ here in
        (j, omega arith, sym (v ∙ the_cell), sym (e ∙ the_code)))
        (λ f. let v : get_or (set w (base + code) cell) (base + k) 0 ≡ get_or w (base + k) 0 = there k (eqb-false k code f) in
        let g = t.from k h (λ z. n (v ∙ z)) in (g.0, omega (arith, g.1), g.2 ∙ sym v, g.3));
    last = λ i h. by_test (code_on list pins i == code)
        (λ y. let e = eqb-true (code_on list pins i) code y in
        let v : get_or (set w (base + code) cell) (base + code_on list pins i) 0 ≡ cell = ap (λ (x : ℕ). get_or (set w (base + code) cell) (base + x) 0) e ∙ here in
        by_test (i == j)
        (λ z. omega (arith, v, the_cell, ap (λ (x : ℕ). cell_on list pins x) (eqb-true i j z)))
        (λ z. omega (arith, v, the_cell, s.rise i j (omega (arith, h, eqb-false i j z)) l)))
        (λ f. let ne' = eqb-false (code_on list pins i) code f in
        let m : i < j = by_test (i == j) (λ z. absurd (ne' (ap (λ (x : ℕ). code_on list pins x) (eqb-true i j z) ∙ sym the_code))) (λ z. omega (arith, h, eqb-false i j z)) in
        omega (arith, there (code_on list pins i) ne', t.last i m));
    none = λ i k a b c d e. by_test (k == j)
        (λ y. let q = eqb-true k j y in
        unlike nz ne i (omega (arith, a, q)) (d ∙ ap (λ (x : ℕ). cell_on list pins x) q) (e ∙ ap (λ (x : ℕ). code_on list pins x) q))
        (λ f. t.none i k a (omega (arith, b, eqb-false k j f)) c d e);
  }
    where
      here : get_or (set w (base + code) cell) (base + code) 0 ≡ cell
      here = get_or-set_same w (base + code) cell 0 (omega (arith, small, t.long))

      there : (k : ℕ) → (k ≡ code → ⊥) → get_or (set w (base + code) cell) (base + k) 0 ≡ get_or w (base + k) 0
      there k n = get_or-set_other w (base + code) (base + k) cell 0 (λ e. n (omega (arith, e)))

  pub stamping_more : Stamped w (base + code) cell w' r → r ≡ true → Stamping list pins w₀ w' base (j + 1)
  stamping_more (of_top z e q) v = subst (λ (x : List ℕ). Stamping list pins w₀ x base (j + 1)) (sym e) (as_top z)
  stamping_more (again n e q) v = true≢false r v q
  stamping_more (new n m e q) v = subst (λ (x : List ℕ). Stamping list pins w₀ x base (j + 1)) (sym e) (as_new n m)

  pub stamping_fails : Stamped w (base + code) cell w' r → r ≡ false → Looked list pins false
  stamping_fails (of_top z e q) v = true≢false r q v
  stamping_fails (again n e q) v =
      let f = t.from code small (λ z. n (sym e ∙ z)) in
      alike f.0 j f.1 l (λ z. n (the_cell ∙ z)) (f.2 ∙ e ∙ the_cell) (f.3 ∙ the_code) refl
  stamping_fails (new n m e q) v = true≢false r q v

pub stamping_ends : (list pins w₀ w : List ℕ) (base j : ℕ) → Stamping list pins w₀ w base j → length list ≤ j → Looked list pins true
stamping_ends list pins w₀ w base j t l = apart (λ i k a b. t.none i k a (omega (arith, t.inside, b))) refl

pub cell_long : (list pins : List ℕ) (j p : ℕ) → Sorted list pins → j < length list → p ≡ get_or list j 0 → 5 * p + 0 < length pins
cell_long list pins j p s l e = omega (arith, entry_long list pins j p s l e)

pub at_inside : (list pins w₀ w : List ℕ) (base j p code : ℕ) → Sorted list pins → Stamping list pins w₀ w base j → j < length list → p ≡ get_or list j 0 → code ≡ code_of pins p
    → base + code < length w
at_inside list pins w₀ w base j p code s t l e ec = omega (arith, t.long, code_small list pins j p code s l e ec)
