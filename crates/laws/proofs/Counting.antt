-- Counting: a list without repeats of numbers below n has at most n members, and how many of the numbers below m are in a list.
use mathlib.Core.Path.{◌≡◌, refl, sym, ◌∙◌, ap}
use mathlib.Core.Bool.{Bool, true, false, not, ◌&&◌}
use mathlib.Core.List.{List, [], ◌∷◌, ◌++◌}
use Prim.Native.Nat.{ℕ, zero, suc, ◌+◌, ◌*◌, ◌≤◌, ◌<◌}
use native.Mathlib.Nat.{suc-mul, mul-le-mul_right}
use native.Mathlib.Numerals.{add-one}
use native.Mathlib.Omega.{arith}
use lib.ListN.{length}
use borrow.Author.Tests.{eqb-true, eqb-false, not-true}
use Rattle.std.specs.Prelude.{◌==◌}
use Rattle.laws.specs.Tests.{one}
use Rattle.laws.specs.Lists.{count, member, keep}
use Rattle.laws.specs.Words.{count_below, AllBelow}
use Rattle.laws.proofs.Tests.{by_test, one_le, and_l, and_r, and-false}
use Rattle.laws.proofs.Bags.{here, member_last, member_other, member_turn, keep_le, keep_true}
use Rattle.laws.proofs.Indices.{index_of}

-- pigeonhole, by taking out the largest number
pub length_parts : (n : ℕ) (l : List ℕ) → length (keep (λ x. not (n == x)) l) + count n l ≡ length l
length_parts n [] = omega arith
length_parts n (x ∷ l) = by_test (n == x)
    (λ t. rw t (omega (arith, length_parts n l)))
    (λ f. rw f (omega (arith, length_parts n l)))

pub fits : (n : ℕ) (l : List ℕ) → ((p : ℕ) → count p l ≤ 1) → ((p : ℕ) → 0 < count p l → p < n) → length l ≤ n
fits zero [] h k = omega arith
fits zero (x ∷ l) h k = absurd (omega (arith, k x (here x l)))
fits (suc n) l h k =
    let q : ℕ → Bool = λ y. not (n == y) in
    omega (
      arith,
      length_parts n l,
      h n,
      fits n (keep q l) (λ p. omega (arith, h p, keep_le q p l))
          (λ p m. let ne : n ≡ p → ⊥ = eqb-false n p (not-true (n == p) (keep_true q p l m)) in
          omega (arith, k p (omega (arith, m, keep_le q p l)), ne)),
    )

-- the same, of the words of a table
pub below_in : (m : ℕ) (l : List ℕ) → AllBelow m l → (p : ℕ) → 0 < count p l → p < m
unfolding AllBelow
below_in m l a p c = let w = index_of l p c in omega (arith, a w.0 w.1, w.2)

-- ---- how many of the numbers below m are in the list: room for one more, and no repeats
pub count_le : (l : List ℕ) (m : ℕ) → count_below l m ≤ m
unfolding count_below
count_le l zero = omega arith
count_le l (suc m) = omega (arith, count_le l m, one_le (member m l))

pub count_none : (m : ℕ) → count_below [] m ≡ 0
unfolding count_below
count_none zero = refl
count_none (suc m) = omega (arith, count_none m)

count-above : (l : List ℕ) (m p : ℕ) → m ≤ p → count_below (l ++ (p ∷ [])) m ≡ count_below l m
unfolding count_below
count-above l zero p h = refl
count-above l (suc m) p h = λ i. count-above l m p (omega arith) i + one (member_other p m l (omega arith) i)

-- a number below m that was not in the list makes one more
pub count-more : (l : List ℕ) (m p : ℕ) → p < m → member p l ≡ false → count_below (l ++ (p ∷ [])) m ≡ suc (count_below l m)
unfolding count_below
count-more l zero p h e = absurd (omega arith)
count-more l (suc m) p h e = by_test (m == p)
    (λ t.
    let q = eqb-true m p t in
    let b : one (member m (l ++ (p ∷ []))) ≡ 1 = ap (λ (n : ℕ). one (member n (l ++ (p ∷ [])))) q ∙ ap one (member_last p l) in
    let c : one (member m l) ≡ 0 = ap (λ (n : ℕ). one (member n l)) q ∙ ap one e in
    omega (arith, b, c, count-above l m p (omega arith)))
    (λ t.
    let n = eqb-false m p t in
    omega (arith, count-more l m p (omega arith) e, ap one (member_other p m l n)))

-- so there is room for it
pub count_lt : (l : List ℕ) (m p : ℕ) → p < m → member p l ≡ false → count_below l m < m
count_lt l m p h e = omega (arith, count-more l m p h e, count_le (l ++ (p ∷ [])) m)

-- lists with the same members, and a new member in front
pub count_same : (l l' : List ℕ) (m : ℕ) → ((q : ℕ) → member q l ≡ member q l') → count_below l m ≡ count_below l' m
unfolding count_below
count_same l l' zero h = refl
count_same l l' (suc m) h = λ i. count_same l l' m h i + one (h m i)

pub count_cons : (l : List ℕ) (m p : ℕ) → p < m → member p l ≡ false → count_below (p ∷ l) m ≡ suc (count_below l m)
count_cons l m p h e = count_same (p ∷ l) (l ++ (p ∷ [])) m (λ q. member_turn p q l) ∙ count-more l m p h e

-- where all are in, there is no room left
pub count_full : (l : List ℕ) (m : ℕ) → m ≤ count_below l m → (p : ℕ) → p < m → member p l ≡ true
count_full l m h p k = by_test (member p l) (λ t. t) (λ f. absurd (omega (arith, h, count_lt l m p k f)))

-- ---- a test `all` of the numbers below n that is made one by one, and fails as soon as one fails: for any table
module _ (all : ℕ → Bool) (each : ℕ → Bool) (step : (n : ℕ) → all (suc n) ≡ (all n && each n)) where
  pub all_fails : (p n : ℕ) → p < n → each p ≡ false → all n ≡ false
  all_fails p zero l e = absurd (omega arith)
  all_fails p (suc n) l e = step n ∙ by_test (p == n)
      (λ t. ap (λ (b : Bool). all n && b) (ap each (sym (eqb-true p n t)) ∙ e) ∙ and-false (all n))
      (λ t. let q = eqb-false p n t in ap (λ (b : Bool). b && each n) (all_fails p n (omega arith) e))

  pub all_more : (n : ℕ) → all n ≡ true → each n ≡ true → all (n + 1) ≡ true
  all_more n a o = ap all (add-one n) ∙ step n ∙ λ i. a i && o i

  pub all_at : (p n : ℕ) → p < n → all n ≡ true → each p ≡ true
  all_at p zero l e = absurd (omega arith)
  all_at p (suc n) l e =
      let s = sym (step n) ∙ e in
      by_test (p == n) (λ t. ap each (eqb-true p n t) ∙ and_r (all n) (each n) s)
      (λ t. let q = eqb-false p n t in all_at p n (omega arith) (and_l (all n) (each n) s))

  pub all_each : all 0 ≡ true → (n : ℕ) → ((p : ℕ) → p < n → each p ≡ true) → all n ≡ true
  all_each z zero h = z
  all_each z (suc n) h = step n ∙ rw (all_each z n (λ p l. h p (omega arith)), h n (omega arith))

-- ---- two numbers as one measure: the first falls, whatever the second, which stays below c, does
pub lex : (a b c x y : ℕ) → a < b → x < c → a * c + x < b * c + y
lex a b c x y h l =
    let s : suc a * c ≡ a * c + c = suc-mul a c in
    let t : suc a * c ≤ b * c = mul-le-mul_right c h in
    omega arith
