-- Levels: a level is one above the highest of what the place leads to, and a table of levels can be filled along the visit order.
use mathlib.Core.Path.{◌≡◌, refl, sym, ◌∙◌}
use mathlib.Core.List.{List, [], ◌∷◌}
use Prim.Native.Nat.{ℕ, zero, suc, ◌+◌, ◌<◌}
use native.Mathlib.Omega.{arith}
use lib.ListN.{length, get_or, set, length-set}
use lib.Seq.{get_or-set_same, get_or-set_other}
use borrow.Author.Tests.{leb-true, leb-false, eqb-true, eqb-false}
use Rattle.std.specs.Prelude.{◌==◌}
use Rattle.laws.specs.Tests.{◌≤?◌}
use Rattle.laws.specs.Lists.{count, over}
use Rattle.laws.specs.Search.{above, level_by, level}
use Rattle.laws.proofs.Tests.{by_test, one_ne}
use Rattle.laws.proofs.Bags.{at_head, here, there}
use Rattle.laws.proofs.Visits.{Ranked}

-- one above the highest
pub above_lt : (h : ℕ → ℕ) (xs : List ℕ) (o : ℕ) → 0 < count o xs → h o < above h xs
above_lt h [] o m = absurd (omega arith)
above_lt h (x ∷ xs) o m = at_head o x xs m (λ e. rw e (omega arith)) (λ m'. omega (arith, above_lt h xs o m'))

pub above_same : (h k : ℕ → ℕ) (xs : List ℕ) → ((o : ℕ) → 0 < count o xs → h o ≡ k o) → above h xs ≡ above k xs
above_same h k [] e = refl
above_same h k (x ∷ xs) e = rw (e x (here x xs), above_same h k xs (λ o m. e o (there o x xs m)))

-- the member that decides it
pub above_got : {P : Type 0} (h : ℕ → ℕ) (xs : List ℕ) → 0 < above h xs → ((o : ℕ) → 0 < count o xs → suc (h o) ≡ above h xs → P) → P
above_got h [] z k = absurd (omega arith)
above_got h (x ∷ xs) z k = by_test (above h xs ≤? suc (h x))
    (λ t. k x (here x xs) (omega (arith, leb-true (above h xs) (suc (h x)) t)))
    (λ n. above_got h xs (omega (arith, leb-false (above h xs) (suc (h x)) n))
    (λ o m e. k o (there o x xs m) (omega (arith, leb-false (above h xs) (suc (h x)) n))))

module _ (nx : ℕ → List ℕ) (below : (u o : ℕ) → 0 < count o (nx u) → o < u) where
  -- a level, at any depth that is enough
  pub level_fuel : (f g u : ℕ) → u < f → u < g → level_by nx f u ≡ level_by nx g u
  level_fuel zero g u h k = absurd (omega arith)
  level_fuel (suc f) zero u h k = absurd (omega arith)
  level_fuel (suc f) (suc g) u h k = above_same (level_by nx f) (level_by nx g) (nx u)
      (λ o m. level_fuel f g o (omega (arith, below u o m)) (omega (arith, below u o m)))

  pub level_is : (u : ℕ) → level nx u ≡ above (level nx) (nx u)
  level_is u = above_same (level_by nx u) (level nx) (nx u) (λ o m. level_fuel u (suc o) o (below u o m) (omega arith))

  pub level_lt : (u o : ℕ) → 0 < count o (nx u) → level nx o < level nx u
  level_lt u o m = omega (arith, above_lt (level nx) (nx u) o m, level_is u)

  -- on a way down from above a level, a place at that level is met
  pub level_cross : {P : Type 0} (Q : ℕ → Type 0) → ((u o : ℕ) → Q u → 0 < count o (nx u) → Q o)
      → (d f u : ℕ) → u < f → Q u → d < level nx u
      → ((v o : ℕ) → Q v → d < level nx v → 0 < count o (nx v) → level nx o ≡ d → P) → P
  level_cross Q step d zero u h q l k = absurd (omega arith)
  level_cross Q step d (suc f) u h q l k = above_got (level nx) (nx u) (omega (arith, level_is u)) (λ o m e.
      by_test (level nx o ≤? d)
      (λ t. k u o q l m (omega (arith, leb-true (level nx o) d t, level_is u)))
      (λ n. level_cross Q step d f o (omega (arith, below u o m)) (step u o q m) (leb-false (level nx o) d n) k))

-- ---- a table of levels, filled along the visit order
module _ (nx : ℕ → List ℕ) (below : (u o : ℕ) → 0 < count o (nx u) → o < u) where
  abbrev pub level_step : List ℕ → ℕ → List ℕ
  level_step t u = set t u (above (λ o. get_or t o 0) (nx u))

  pub levels_filled : (us seen : List ℕ) (t : List ℕ) → Ranked nx seen us → ((u : ℕ) → 0 < count u us → u < length t) → ((o : ℕ) → 0 < count o seen → get_or t o 0 ≡ level nx o)
      → (p : ℕ) → 0 < count p seen + count p us → get_or (over level_step t us) p 0 ≡ level nx p
  levels_filled [] seen t r n h p m = h p (omega arith)
  levels_filled (u ∷ us) seen t r n h p m = levels_filled us (u ∷ seen) (level_step t u) r.2
      (λ v m'. rw (length-set t u (above (λ o. get_or t o 0) (nx u))) (n v (there v u us m')))
      (λ o m'. by_test (o == u)
      (λ y. rw (eqb-true o u y) (get_or-set_same t u (above (λ o'. get_or t o' 0) (nx u)) 0 (n u (here u us))
      ∙ above_same (λ o'. get_or t o' 0) (level nx) (nx u) (λ o' k. h o' (r.1 o' k)) ∙ sym (level_is nx below u)))
      (λ f. get_or-set_other t u o (above (λ o'. get_or t o' 0) (nx u)) 0 (eqb-false o u f) ∙ h o (omega (arith, m', one_ne o u (eqb-false o u f)))))
      p (omega arith)
