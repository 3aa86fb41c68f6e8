-- What the gates of a driver table read, by their words, and how often.
use mathlib.Core.Path.{◌≡◌, refl, sym, ap, subst, ◌∙◌}
use mathlib.Core.List.{List, [], ◌∷◌, ◌++◌, map, append-nil}
use Prim.Native.Nat.{ℕ, zero, suc, ◌+◌, ◌*◌, ◌<◌, ◌≤◌}
use native.Mathlib.Omega.{arith}
use borrow.Author.Tests.{eqb-true, eqb-false, eq-eqb, ne_eqb, ltb-true, ltb-false, lt-ltb, le-ltb}
use lib.ListN.{length, length-append}
use Rattle.std.specs.Prelude.{◌==◌}
use Rattle.laws.specs.Tests.{◌<?◌, one}
use Rattle.laws.specs.Lists.{count, keep, flat, upto}
use Rattle.laws.proofs.Tests.{by_test, if_true, if_false, one_eq, one_ne}
use Rattle.laws.proofs.Bags.{count-append, at_head, here, there, flat-joined, of_flat}
use Rattle.laws.proofs.Ranges.{in_upto}
use Rattle.walk.specs.State.{tag_of, first_of, second_of, Operands}
use Rattle.fanouts.specs.Fans.{operands_of, readings, readers_of, counts_to}

-- ---- the operands of one pin
module _ (ws : List ℕ) (u : ℕ) where
  pub gate-operands : tag_of ws u ≡ 1 → operands_of ws u ≡ first_of ws u ∷ second_of ws u ∷ []
  unfolding operands_of
  gate-operands e = if_true (tag_of ws u == 1) (first_of ws u ∷ second_of ws u ∷ []) [] (eq-eqb (tag_of ws u) 1 e)

  pub no_operands : (tag_of ws u ≡ 1 → ⊥) → operands_of ws u ≡ []
  unfolding operands_of
  no_operands n = if_false (tag_of ws u == 1) (first_of ws u ∷ second_of ws u ∷ []) [] (ne_eqb (tag_of ws u) 1 n)

  pub by_tag : {P : Type 0} → (tag_of ws u ≡ 1 → P) → ((tag_of ws u ≡ 1 → ⊥) → P) → P
  by_tag p q = by_test (tag_of ws u == 1) (λ t. p (eqb-true (tag_of ws u) 1 t)) (λ f. q (eqb-false (tag_of ws u) 1 f))

  pub operands_few : length (operands_of ws u) ≤ 2
  operands_few = by_tag (λ t. omega (arith, ap length (gate-operands t))) (λ n. omega (arith, ap length (no_operands n)))

  pub operands_less : (m : ℕ) → Operands ws m → u < m → (o : ℕ) → 0 < count o (operands_of ws u) → o < u
  operands_less m fit l o c = by_tag
      (λ t. at_head o (first_of ws u) (second_of ws u ∷ []) (subst (λ (s : List ℕ). 0 < count o s) (gate-operands t) c)
      (λ e. omega (arith, fit.first_less u l t))
      (λ d. at_head o (second_of ws u) [] d (λ e. omega (arith, fit.second_less u l t)) (λ z. absurd (omega arith))))
      (λ n. absurd (omega (arith, subst (λ (s : List ℕ). 0 < count o s) (no_operands n) c)))

-- ---- all readings of the gates below u
module _ (ws : List ℕ) where
  pub readings-none : readings ws 0 ≡ []
  unfolding readings
  readings-none = refl

  pub readings-more : (u : ℕ) → readings ws (suc u) ≡ readings ws u ++ operands_of ws u
  unfolding readings
  readings-more u = flat-joined (operands_of ws) (upto u) (u ∷ []) ∙ ap (λ (s : List ℕ). flat (operands_of ws) (upto u) ++ s) (append-nil (operands_of ws u))

  pub readings_few : (u : ℕ) → length (readings ws u) ≤ 2 * u
  readings_few zero = omega (arith, ap length readings-none)
  readings_few (suc u) = omega (arith, readings_few u, operands_few ws u, ap length (readings-more u), length-append (readings ws u) (operands_of ws u))

  pub readings_in : (m : ℕ) → Operands ws m → (o : ℕ) → 0 < count o (readings ws m) → o < m
  unfolding readings
  readings_in m fit o c = of_flat (operands_of ws) o (upto m) c (λ u i d. omega (arith, in_upto m u i, operands_less ws u m fit (in_upto m u i) o d))

  pub count-more : (u p : ℕ) → count p (readings ws (suc u)) ≡ count p (readings ws u) + count p (operands_of ws u)
  count-more u p = ap (count p) (readings-more u) ∙ count-append p (readings ws u) (operands_of ws u)

  pub count_rises : (u m p : ℕ) → u ≤ m → count p (readings ws u) ≤ count p (readings ws m)
  count_rises u zero p l = let e : u ≡ 0 = omega arith in omega (arith, ap (λ (n : ℕ). count p (readings ws n)) e)
  count_rises u (suc m) p l = by_test (u == suc m)
      (λ t. omega (arith, ap (λ (n : ℕ). count p (readings ws n)) (eqb-true u (suc m) t)))
      (λ f. omega (arith, count_rises u m p (omega (arith, eqb-false u (suc m) f)), count-more m p))

-- ---- the readers of one pin
kept-count : (p u : ℕ) (os : List ℕ) → length (map (λ o. u) (keep (λ o. o == p) os)) ≡ count p os
kept-count p u [] = refl
kept-count p u (o ∷ os) = by_test (o == p)
    (λ t. rw t (omega (arith, kept-count p u os, one_eq p o (sym (eqb-true o p t)))))
    (λ f. rw f (omega (arith, kept-count p u os, one_ne p o (λ e. eqb-false o p f (sym e)))))

module _ (ws : List ℕ) (p : ℕ) where
  pub readers_none : readers_of ws 0 p ≡ []
  unfolding readers_of
  readers_none = refl

  pub readers_more : (u : ℕ) → readers_of ws (suc u) p ≡ map (λ o. u) (keep (λ o. o == p) (operands_of ws u)) ++ readers_of ws u p
  unfolding readers_of
  readers_more u = refl

  pub readers_count : (u : ℕ) → length (readers_of ws u p) ≡ count p (readings ws u)
  readers_count zero = ap length readers_none ∙ sym (ap (count p) (readings-none ws))
  readers_count (suc u) =
      omega (
        arith,
        ap length (readers_more u),
        length-append (map (λ o. u) (keep (λ o. o == p) (operands_of ws u))) (readers_of ws u p),
        kept-count p u (operands_of ws u),
        readers_count u,
        count-more ws u p,
      )

-- ---- counts summed up
pub counts_suc : (l : List ℕ) (n : ℕ) → counts_to l (suc n) ≡ counts_to l n + count n l
unfolding counts_to
counts_suc l n = refl

pub counts_zero : (l : List ℕ) → counts_to l 0 ≡ 0
unfolding counts_to
counts_zero l = refl

pub counts_rise : (l : List ℕ) (p q : ℕ) → p ≤ q → counts_to l p ≤ counts_to l q
counts_rise l p zero h = let e : p ≡ 0 = omega arith in omega (arith, ap (counts_to l) e)
counts_rise l p (suc q) h = by_test (p == suc q)
    (λ t. omega (arith, ap (counts_to l) (eqb-true p (suc q) t)))
    (λ f. omega (arith, counts_rise l p q (omega (arith, eqb-false p (suc q) f)), counts_suc l q))

counts_none : (n : ℕ) → counts_to [] n ≡ 0
counts_none zero = counts_zero []
counts_none (suc n) = omega (arith, counts_none n, counts_suc [] n)

counts_cons : (x : ℕ) (l : List ℕ) (n : ℕ) → counts_to (x ∷ l) n ≡ one (x <? n) + counts_to l n
counts_cons x l zero = omega (arith, counts_zero (x ∷ l), counts_zero l, ap one (le-ltb x 0 (omega arith)))
counts_cons x l (suc n) = omega (arith, counts_cons x l n, counts_suc (x ∷ l) n, counts_suc l n, at)
  where
    at : one (x <? n) + one (n == x) ≡ one (x <? suc n)
    at = by_test (x <? n)
        (λ t. omega (arith, ap one t, one_ne n x (λ e. omega (arith, e, ltb-true x n t)), ap one (lt-ltb x (suc n) (omega (arith, ltb-true x n t)))))
        (λ f. by_test (n == x)
        (λ t. omega (arith, ap one f, one_eq n x (eqb-true n x t), ap one (lt-ltb x (suc n) (omega (arith, eqb-true n x t)))))
        (λ g. omega (arith, ap one f, one_ne n x (eqb-false n x g), ap one (le-ltb x (suc n) (omega (arith, ltb-false x n f, eqb-false n x g))))))

-- where all stand below n, each is counted once
pub counts_all : (l : List ℕ) (n : ℕ) → ((x : ℕ) → 0 < count x l → x < n) → counts_to l n ≡ length l
counts_all [] n h = counts_none n
counts_all (x ∷ l) n h = omega (arith, counts_cons x l n, ap one (lt-ltb x n (h x (here x l))), counts_all l n (λ y c. h y (there y x l c)))
