-- Where records are numbered: the number of a cell in a list that grows by insertion, and where the lists of cells begin.
use mathlib.Core.Path.{◌≡◌, refl, ap, subst, ◌∙◌}
use mathlib.Core.Bool.{Bool, true}
use mathlib.Core.List.{List, [], ◌∷◌, ◌++◌}
use Prim.Native.Nat.{ℕ, zero, suc, ◌+◌, ◌-◌, ◌≤◌, ◌<◌}
use native.Mathlib.Omega.{arith}
use lib.ListN.{length, length-append, length-take}
use borrow.Author.Tests.{eq-eqb, eqb-true, eqb-false, ltb-true, ltb-false}
use Rattle.std.specs.Prelude.{if◌then◌else◌, ◌==◌}
use Rattle.laws.specs.Tests.{◌<?◌}
use Rattle.laws.specs.Lists.{count, member}
use Rattle.laws.specs.Sets.{insert}
use Rattle.laws.proofs.Tests.{by_test, one_ne, one_eq}
use Rattle.laws.proofs.Bags.{member_true, member_false, is_member, no_member, count-append}
use Rattle.laws.proofs.Sets.{insert_old, insert_new}
use Rattle.laws.proofs.Indices.{place}
use Rattle.rules.specs.Netlist.{Netlist, size, cells, cell_of, pins_of, start_of}
use Rattle.rules.specs.Refusals.{tables_number}
use Rattle.rules.proofs.Tables.{own_cell, starts_rise, last_start}
use Rattle.drafts.specs.Layout.{number_in}

-- ---- numbers
place_old : (x y : ℕ) (l : List ℕ) → 0 < count x l → place x (l ++ (y ∷ [])) ≡ place x l
place_old x y [] m = absurd (omega arith)
place_old x y (z ∷ l) m = by_test (x == z)
    (λ t. rw t)
    (λ f. rw f (ap suc (place_old x y l (omega (arith, m, one_ne x z (eqb-false x z f))))))

place_new : (x : ℕ) (l : List ℕ) → count x l ≡ 0 → place x (l ++ (x ∷ [])) ≡ length l
place_new x [] m = rw (eq-eqb x x refl)
place_new x (z ∷ l) m = by_test (x == z)
    (λ t. absurd (omega (arith, m, one_eq x z (eqb-true x z t))))
    (λ f. rw f (ap suc (place_new x l (omega (arith, m)))))

pub number-none : (l : List ℕ) (x : ℕ) → number_in l x ≡ 0 → count x l ≡ 0
unfolding number_in
number-none l x z = by_test (member x l)
    (λ t. let q : (if true then suc (place x l) else 0) ≡ 0 = subst (λ (b : Bool). (if b then suc (place x l) else 0) ≡ 0) t z in absurd (omega (arith, q)))
    (λ f. member_false x l f)

pub number_some : (l : List ℕ) (x : ℕ) → (number_in l x ≡ 0 → ⊥) → 0 < count x l
unfolding number_in
number_some l x ne = by_test (member x l) (λ t. member_true x l t) (λ f. absurd (ne (rw f)))

pub number_empty : (x : ℕ) → number_in [] x ≡ 0
unfolding number_in
number_empty x = refl

module _ (l : List ℕ) (x : ℕ) where
  pub number_new : number_in l x ≡ 0 → number_in (insert l x) x ≡ length l + 1
  unfolding number_in
  number_new z =
      let n = number-none l x z in
      ap (λ (k : List ℕ). if member x k then suc (place x k) else 0) (insert_new l x n)
      ∙ rw (is_member x (l ++ (x ∷ [])) (omega (arith, count-append x l (x ∷ []), one_eq x x refl))) (omega (arith, place_new x l n))

  pub number_old : (number_in l x ≡ 0 → ⊥) → number_in (insert l x) x ≡ number_in l x
  number_old ne = ap (λ (k : List ℕ). number_in k x) (insert_old l x (number_some l x ne))

  pub number_other : (y : ℕ) → (y ≡ x → ⊥) → number_in (insert l x) y ≡ number_in l y
  unfolding number_in
  number_other y ne = by_test (member x l)
      (λ t. ap (λ (k : List ℕ). number_in k y) (insert_old l x (member_true x l t)))
      (λ f. ap (λ (k : List ℕ). number_in k y) (insert_new l x (member_false x l f)) ∙ other)
    where
      same : count y (l ++ (x ∷ [])) ≡ count y l
      same = omega (arith, count-append y l (x ∷ []), one_ne y x ne)

      other : number_in (l ++ (x ∷ [])) y ≡ number_in l y
      other = by_test (member y l)
          (λ t. let m = member_true y l t in rw (is_member y (l ++ (x ∷ [])) (omega (arith, same, m)), t) (ap suc (place_old y x l m)))
          (λ f. let m = member_false y l f in rw (no_member y (l ++ (x ∷ [])) (omega (arith, same, m)), f))

  pub longer_new : number_in l x ≡ 0 → length (insert l x) ≡ length l + 1
  longer_new z = ap length (insert_new l x (number-none l x z)) ∙ length-append l (x ∷ [])

  pub longer_old : (number_in l x ≡ 0 → ⊥) → length (insert l x) ≡ length l
  longer_old ne = ap length (insert_old l x (number_some l x ne))

-- ---- where lists begin
nothing_in : (l : List ℕ) (p : ℕ) → 0 < count p l → 0 < length l
nothing_in [] p m = absurd (omega arith)
nothing_in (x ∷ l) p m = omega arith

module _ (n : Netlist) (acc : tables_number n ≡ 0) where
  -- a cell that has a pin has a list
  pub pin_start : (p : ℕ) → p < size n → start_of n (cell_of n p) < start_of n (cell_of n p + 1)
  pin_start p l =
      let some : 0 < length (pins_of n (cell_of n p)) = nothing_in (pins_of n (cell_of n p)) p (omega (arith, own_cell n acc p l)) in
      omega (arith, some, shorter)
    where
      shorter : length (pins_of n (cell_of n p)) ≤ start_of n (cell_of n p + 1) - start_of n (cell_of n p)
      shorter = rw length-take (omega arith)

  climbs : (k c : ℕ) → c + k ≤ cells n → start_of n c ≤ start_of n (c + k)
  climbs zero c l = let e : c + 0 ≡ c = omega arith in omega (arith, ap (start_of n) e)
  climbs (suc k) c l =
      let e : c + suc k ≡ (c + k) + 1 = omega arith in
      omega (arith, climbs k c (omega (arith, l)), starts_rise n acc (c + k) (omega (arith, l)), ap (start_of n) e)

  pub start_rises : (c d : ℕ) → c ≤ d → d ≤ cells n → start_of n c ≤ start_of n d
  start_rises c d l h = let e : c + (d - c) ≡ d = omega (arith, l) in omega (arith, climbs (d - c) c (omega (arith, l, h)), ap (start_of n) e)

  pub start-below : (c : ℕ) → c < cells n → start_of n c < start_of n (c + 1) → start_of n c < size n
  start-below c l h = omega (arith, h, start_rises (c + 1) (cells n) (omega (arith, l)) (omega arith), last_start n acc)

  -- no other list begins there
  pub start_apart : (c d : ℕ) → c < cells n → d < cells n → start_of n c < start_of n (c + 1) → start_of n d < start_of n (d + 1) → (d ≡ c → ⊥) → start_of n d ≡ start_of n c → ⊥
  start_apart c d lc ld hc hd ne e = by_test (c <? d)
      (λ t. omega (arith, hc, e, start_rises (c + 1) d (omega (arith, ltb-true c d t)) (omega (arith, ld))))
      (λ f. let g : d < c = omega (arith, ltb-false c d f, ne) in omega (arith, hd, e, start_rises (d + 1) c (omega (arith, g)) (omega (arith, lc))))
