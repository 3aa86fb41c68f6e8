-- A table summed up, word by word.
use mathlib.Core.Path.{◌≡◌, refl, sym, ap, subst, ◌∙◌}
use mathlib.Core.List.{List}
use Prim.Native.Nat.{ℕ, zero, suc, ◌+◌, ◌<◌, ◌≤◌}
use native.Mathlib.Numerals.{add-one}
use native.Mathlib.Omega.{arith}
use borrow.Author.Tests.{eqb-true, eqb-false}
use lib.ListN.{length, get_or, set, length-set}
use lib.Seq.{get_or-set_same, get_or-set_other}
use Rattle.std.specs.Prelude.{◌==◌}
use Rattle.laws.specs.Lists.{count}
use Rattle.laws.proofs.Tests.{by_test}
use Rattle.fanouts.specs.Fans.{sum_to, Summed, counts_to}
use Rattle.fanouts.proofs.Readings.{counts_suc, counts_zero}

pub sum_zero : (w : List ℕ) → sum_to w 0 ≡ 0
unfolding sum_to
sum_zero w = refl

pub sum_suc : (w : List ℕ) (n : ℕ) → sum_to w (suc n) ≡ sum_to w n + get_or w n 0
unfolding sum_to
sum_suc w n = refl

pub sum_rises : (w : List ℕ) (p q : ℕ) → p ≤ q → sum_to w p ≤ sum_to w q
sum_rises w p zero h = let e : p ≡ 0 = omega arith in omega (arith, ap (sum_to w) e)
sum_rises w p (suc q) h = by_test (p == suc q)
    (λ t. omega (arith, ap (sum_to w) (eqb-true p (suc q) t)))
    (λ f. omega (arith, sum_rises w p q (omega (arith, eqb-false p (suc q) f)), sum_suc w q))

-- a table of counts, summed up
pub sum_counts : (w l : List ℕ) (n : ℕ) → ((p : ℕ) → p < n → get_or w p 0 ≡ count p l) → sum_to w n ≡ counts_to l n
sum_counts w l zero e = sum_zero w ∙ sym (counts_zero l)
sum_counts w l (suc n) e = omega (arith, sum_counts w l n (λ p h. e p (omega arith)), e n (omega arith), sum_suc w n, counts_suc l n)

-- ---- the loop: the first i words are sums, the rest is as it was
pub record Summing (w : List ℕ) (i sum : ℕ) (w' : List ℕ) : Type 0 where
  pub sum_is : sum ≡ sum_to w i
  pub long : length w' ≡ length w
  pub sums : (j : ℕ) → j < i → get_or w' j 0 ≡ sum_to w (suc j)
  pub rest : (j : ℕ) → i ≤ j → get_or w' j 0 ≡ get_or w j 0

pub sums_begin : (w : List ℕ) → Summing w 0 0 w
sums_begin w = record { sum_is = sym (sum_zero w); long = refl; sums = λ j l. absurd (omega arith); rest = λ j l. refl }

module _ (w : List ℕ) (k i sum : ℕ) (w' : List ℕ) (n : ℕ) (h : k ≤ length w) (s : Summing w i sum w') (l : i < k) (e : n ≡ get_or w' i 0) where
  next-sum : sum + n ≡ sum_to w (suc i)
  next-sum = omega (arith, s.sum_is, e, s.rest i (omega arith), sum_suc w i)

  pub sum_fits : sum_to w k ≤ 4294967295 → sum + n ≤ 4294967295
  sum_fits q = omega (arith, next-sum, sum_rises w (suc i) k l)

  pub sums_go_on : Summing w (i + 1) (sum + n) (set w' i (sum + n))
  sums_go_on = record {
    sum_is = next-sum ∙ ap (sum_to w) (sym (add-one i));
    long = length-set w' i (sum + n) ∙ s.long;
    sums = λ j b. by_test (j == i)
        (λ t. let q = eqb-true j i t in
        subst (λ (x : ℕ). get_or (set w' i (sum + n)) x 0 ≡ sum_to w (suc x)) (sym q) (get_or-set_same w' i (sum + n) 0 (omega (arith, s.long)) ∙ next-sum))
        (λ f. get_or-set_other w' i j (sum + n) 0 (eqb-false j i f) ∙ s.sums j (omega (arith, eqb-false j i f)));
    rest = λ j b. get_or-set_other w' i j (sum + n) 0 (omega arith) ∙ s.rest j (omega arith);
  }

pub sums_end : (w : List ℕ) (k i sum : ℕ) (w' : List ℕ) → Summing w i sum w' → i ≤ k → k ≤ i → Summed w k w'
sums_end w k i sum w' s a b = record { long = s.long; sums = λ j l. s.sums j (omega arith); rest = λ j l. s.rest j (omega arith) }
