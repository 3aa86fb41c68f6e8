-- A table of rows of m words, one for each cell of a list: the rows of the cells below i are written, the others are 0.
use mathlib.Core.Path.{◌≡◌, sym, ap, subst, ◌∙◌}
use mathlib.Core.List.{List, [], ◌∷◌, ◌++◌, map}
use Prim.Native.Nat.{ℕ, zero, suc, ◌+◌, ◌-◌, ◌*◌, ◌<◌, ◌≤◌}
use native.Mathlib.Nat.{mul-suc}
use native.Mathlib.Omega.{arith}
use lib.ListN.{length, get_or, length-map}
use borrow.Author.Tests.{ltb-true, ltb-false, lt-ltb, eqb-true, eqb-false}
use Rattle.std.specs.Prelude.{if◌then◌else◌, ◌==◌}
use Rattle.laws.specs.Tests.{◌<?◌}
use Rattle.laws.specs.Lists.{count, flat}
use Rattle.laws.specs.Words.{zeros, filled}
use Rattle.laws.proofs.Tests.{by_test}
use Rattle.laws.proofs.Indices.{map_at, at_in, once_at, snoc_length, snoc_at, snoc_kept}
use Rattle.laws.proofs.Words.{zeros_at, filled_is}
use Rattle.builds.proofs.Words.{flat-length, flat_at}
use Rattle.words.proofs.Tables.{Writing}

-- a row lies behind the rows before it
behind : (m k d k' : ℕ) → k' ≡ suc (d + k) → m * k + m ≤ m * k'
behind m k zero k' e = let q : k' ≡ suc k = omega (arith, e) in omega (arith, ap (λ (x : ℕ). m * x) q, mul-suc m k)
behind m k (suc d) k' e = let q : k' ≡ suc (k' - 1) = omega (arith, e) in
    omega (arith, behind m k d (k' - 1) (omega (arith, e)), ap (λ (x : ℕ). m * x) q, mul-suc m (k' - 1))

row_behind : (m k k' : ℕ) → k < k' → m * k + m ≤ m * k'
row_behind m k k' l = behind m k (k' - suc k) k' (omega (arith, l))

pub record Rows (m : ℕ) (cs : List ℕ) (row : ℕ → ℕ → ℕ) (i : ℕ) (t : List ℕ) : Type 0 where
  pub rows : (k j : ℕ) → k < length cs → j < m → get_or t (m * k + j) 0 ≡ (if get_or cs k 0 <? i then row (get_or cs k 0) j else 0)
  pub rest : (j : ℕ) → m * length cs ≤ j → get_or t j 0 ≡ 0
  pub room : m * length cs ≤ length t

pub rows_begin : (m : ℕ) (cs : List ℕ) (row : ℕ → ℕ → ℕ) (t : List ℕ) → t ≡ zeros (length t) → m * length cs ≤ length t → Rows m cs row 0 t
rows_begin m cs row t e r = record {
  rows = λ k j l b. none (m * k + j) ∙ sym (unread (get_or cs k 0) j);
  rest = λ j l. none j;
  room = r;
}
  where
    none : (j : ℕ) → get_or t j 0 ≡ 0
    none j = ap (λ (x : List ℕ). get_or x j 0) e ∙ zeros_at (length t) j

    unread : (c j : ℕ) → (if c <? 0 then row c j else 0) ≡ 0
    unread c j = by_test (c <? 0) (λ y. absurd (omega (arith, ltb-true c 0 y))) (λ f. rw f)

-- the next cell is none of these, or one of these
not_yet : (c i : ℕ) → (c ≡ i → ⊥) → (c <? suc i) ≡ (c <? i)
not_yet c i ne = by_test (c <? i)
    (λ y. lt-ltb c (suc i) (omega (arith, ltb-true c i y)) ∙ sym y)
    (λ f. by_test (c <? suc i) (λ y. absurd (ne (omega (arith, ltb-true c (suc i) y, ltb-false c i f)))) (λ g. g ∙ sym f))

module _ (m : ℕ) (cs : List ℕ) (row : ℕ → ℕ → ℕ) (i : ℕ) (t : List ℕ) (h : Rows m cs row i t) where
  kept : (k j : ℕ) → (get_or cs k 0 ≡ i → ⊥) → (if get_or cs k 0 <? i then row (get_or cs k 0) j else 0) ≡ (if get_or cs k 0 <? suc i then row (get_or cs k 0) j else 0)
  kept k j ne = ap (λ x. if x then row (get_or cs k 0) j else 0) (sym (not_yet (get_or cs k 0) i ne))

  pub rows_skip : count i cs ≡ 0 → Rows m cs row (suc i) t
  rows_skip z = record {
    rows = λ k j l b. h.rows k j l b ∙ kept k j (λ e. absurd (omega (arith, z, ap (λ (x : ℕ). count x cs) e, at_in cs k l)));
    rest = h.rest;
    room = h.room;
  }

  pub rows_write : ((x : ℕ) → count x cs ≤ 1) → (k : ℕ) → k < length cs → get_or cs k 0 ≡ i → (f : ℕ → ℕ) → ((j : ℕ) → j < m → f j ≡ row i j) → (t' : List ℕ) → Writing t (m * k) f m t' → Rows m cs row (suc i) t'
  rows_write once k l e f same t' w = record {
    rows = λ k' j l' b. by_test (k' == k)
        (λ y. let q = eqb-true k' k y in
        ap (λ (x : ℕ). get_or t' (m * x + j) 0) q ∙ w.done j b ∙ same j b ∙ sym (here j (get_or cs k' 0) (ap (λ (x : ℕ). get_or cs x 0) q ∙ e)))
        (λ g. let ne = eqb-false k' k g in
        elsewhere k' j b ne ∙ h.rows k' j l' b ∙ kept k' j (λ e'. ne (once_at cs once k' k l' l (e' ∙ sym e))));
    rest = λ j b. w.after j (omega (arith, b, row_behind m k (length cs) l)) ∙ h.rest j b;
    room = omega (arith, h.room, w.long);
  }
    where
      here : (j c : ℕ) → c ≡ i → (if c <? suc i then row c j else 0) ≡ row i j
      here j c q = ap (λ x. if x then row c j else 0) (lt-ltb c (suc i) (omega (arith, q))) ∙ ap (λ (x : ℕ). row x j) q

      elsewhere : (k' j : ℕ) → j < m → (k' ≡ k → ⊥) → get_or t' (m * k' + j) 0 ≡ get_or t (m * k' + j) 0
      elsewhere k' j b ne = by_test (k' <? k)
          (λ y. w.before (m * k' + j) (omega (arith, b, row_behind m k' k (ltb-true k' k y))))
          (λ g. w.after (m * k' + j) (omega (arith, b, row_behind m k k' (omega (arith, ne, ltb-false k' k g)))))

  -- a new row behind the others
  pub rows_more : (c : ℕ) → i ≤ c → m * (length cs + 1) ≤ length t → Rows m (cs ++ (c ∷ [])) row i t
  rows_more c l r = record {
    rows = λ k j b d. by_test (k <? length cs)
        (λ y. h.rows k j (ltb-true k (length cs) y) d ∙ ap (λ (x : ℕ). if x <? i then row x j else 0) (sym (snoc_kept cs c 0 k (ltb-true k (length cs) y))))
        (λ g. let q : k ≡ length cs = omega (arith, b, snoc_length cs c 0, ltb-false k (length cs) g) in
        h.rest (m * k + j) (omega (arith, ap (λ (x : ℕ). m * x) q))
        ∙ sym (unread j (get_or (cs ++ (c ∷ [])) k 0) (ap (λ (x : ℕ). get_or (cs ++ (c ∷ [])) x 0) q ∙ snoc_at cs c 0)));
    rest = λ j b. h.rest j (omega (arith, b, ap (λ (x : ℕ). m * x) (snoc_length cs c 0), mul-suc m (length cs)));
    room = let q : length (cs ++ (c ∷ [])) ≡ length cs + 1 = omega (arith, snoc_length cs c 0) in omega (arith, r, ap (λ (x : ℕ). m * x) q);
  }
    where
      unread : (j x : ℕ) → x ≡ c → (if x <? i then row x j else 0) ≡ 0
      unread j x q = by_test (x <? i) (λ y. absurd (omega (arith, q, l, ltb-true x i y))) (λ f. rw f)

  -- all of them are written
  pub rows_end : {A : Type 0} (words : A → List ℕ) (g : ℕ → A) (d : A) → ((c : ℕ) → 0 < count c cs → c < i) → ((c : ℕ) → 0 < count c cs → length (words (g c)) ≡ m)
      → ((c j : ℕ) → 0 < count c cs → j < m → row c j ≡ get_or (words (g c)) j 0)
      → ((j : ℕ) → j < m * length cs → (k r : ℕ) × (k < length cs) × (r < m) × (j ≡ m * k + r)) → t ≡ filled (flat words (map g cs)) (length t)
  rows_end words g d all long same split = filled_is t (flat words (map g cs)) (omega (arith, h.room, flat_long)) at_j (λ j b. h.rest j (omega (arith, b, flat_long)))
    where
      entry : (k : ℕ) → k < length cs → get_or (map g cs) k d ≡ g (get_or cs k 0)
      entry k l = map_at g cs k 0 d l

      each : (k : ℕ) → k < length (map g cs) → length (words (get_or (map g cs) k d)) ≡ m
      each k l = let b : k < length cs = omega (arith, l, length-map cs g) in ap (λ x. length (words x)) (entry k b) ∙ long (get_or cs k 0) (at_in cs k b)

      flat_long : length (flat words (map g cs)) ≡ m * length cs
      flat_long = flat-length words m d (map g cs) each ∙ ap (λ (x : ℕ). m * x) (length-map cs g)

      at_row : (k r : ℕ) → k < length cs → r < m → get_or t (m * k + r) 0 ≡ get_or (flat words (map g cs)) (m * k + r) 0
      at_row k r l b = h.rows k r l b
          ∙ ap (λ x. if x then row (get_or cs k 0) r else 0) (lt-ltb (get_or cs k 0) i (all (get_or cs k 0) (at_in cs k l)))
          ∙ same (get_or cs k 0) r (at_in cs k l) b ∙ ap (λ x. get_or (words x) r 0) (sym (entry k l)) ∙ sym (flat_at words m d (map g cs) each k r (omega (arith, l, length-map cs g)) b)

      at_j : (j : ℕ) → j < length (flat words (map g cs)) → get_or t j 0 ≡ get_or (flat words (map g cs)) j 0
      at_j j b = let s = split j (omega (arith, b, flat_long)) in
          subst (λ (x : ℕ). get_or t x 0 ≡ get_or (flat words (map g cs)) x 0) (sym s.4) (at_row s.0 s.1 s.2 s.3)
