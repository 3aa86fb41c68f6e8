-- A loop is found where a run of steps is as long as there are places: some place on it comes twice.
use mathlib.Core.Path.{◌≡◌, refl, sym, subst}
use mathlib.Core.List.{List, [], ◌∷◌}
use Prim.Native.Nat.{ℕ, zero, suc, ◌≤◌, ◌<◌}
use native.Mathlib.Omega.{arith}
use lib.ListN.{length}
use borrow.Author.Tests.{leb-true, leb-false, ltb-true, ltb-false, eqb-true, eqb-false}
use Rattle.std.specs.Prelude.{◌==◌}
use Rattle.laws.specs.Tests.{◌<?◌, ◌≤?◌}
use Rattle.laws.specs.Lists.{count, member, every}
use Rattle.laws.specs.Search.{above, level_by, Chain}
use Rattle.laws.specs.Search.Chain.{step, more}
use Rattle.laws.proofs.Tests.{by_test, one_ne, one_le}
use Rattle.laws.proofs.Bags.{member_true, member_false, at_head, every_true, every_false}
use Rattle.laws.proofs.Counting.{fits}
use Rattle.laws.proofs.Levels.{above_got}
use Rattle.laws.proofs.Loops.{Linked}

module _ (nx : ℕ → List ℕ) where
  -- each place of a run is reached, and one that comes twice comes back to itself
  reaches : (l : List ℕ) (u x : ℕ) → Linked nx u l → 0 < count x l → Chain nx u x
  reaches [] u x k m = absurd (omega arith)
  reaches (o ∷ l) u x k m = at_head x o l m
      (λ e. subst (λ (z : ℕ). Chain nx u z) (sym e) (step k.0))
      (λ m'. more k.0 (reaches l o x k.1 m'))

  twice : (l : List ℕ) (u x : ℕ) → Linked nx u l → 1 < count x (u ∷ l) → Chain nx x x
  twice [] u x k m = absurd (omega (arith, one_le (x == u)))
  twice (o ∷ l) u x k m = by_test (x == u)
      (λ t. subst (λ (z : ℕ). Chain nx z x) (sym (eqb-true x u t)) (reaches (o ∷ l) u x k (omega (arith, one_le (x == u)))))
      (λ f. twice l o x k.1 (omega (arith, one_ne x u (eqb-false x u f))))

  module _ (n : ℕ) (closed : (u o : ℕ) → u < n → 0 < count o (nx u) → o < n) where
    -- a run of the greatest length, inside
    longest : {P : Type 0} (f u : ℕ) → u < n → ((l : List ℕ) → Linked nx u l → ((p : ℕ) → 0 < count p (u ∷ l) → p < n) → length l ≡ level_by nx f u → P) → P
    longest zero u h k = k [] tt (λ p m. at_head p u [] m (λ e. omega arith) (λ m'. absurd (omega arith))) refl
    longest (suc f) u h k = by_test (0 <? above (level_by nx f) (nx u))
        (λ t. above_got (level_by nx f) (nx u) (ltb-true 0 (above (level_by nx f) (nx u)) t) (λ o m e.
        longest f o (closed u o h m) (λ l r a q. k (o ∷ l) (m, r) (λ p mp. at_head p u (o ∷ l) mp (λ e'. omega arith) (λ m'. a p m')) (omega (arith, q)))))
        (λ g. k [] tt (λ p m. at_head p u [] m (λ e. omega arith) (λ m'. absurd (omega arith))) (omega (arith, ltb-false 0 (above (level_by nx f) (nx u)) g)))

    pub loop_found : (f u : ℕ) → u < n → n ≤ level_by nx f u → (x : ℕ) × (x < n) × Chain nx x x
    loop_found f u h long = longest f u h (λ l r a q. by_test (every (λ p. count p (u ∷ l) ≤? 1) (u ∷ l))
        (λ t. absurd (omega (
          arith,
          q,
          fits n (u ∷ l) (λ p. by_test (member p (u ∷ l))
              (λ y. leb-true (count p (u ∷ l)) 1 (every_true (λ x. count x (u ∷ l) ≤? 1) p (u ∷ l) t (member_true p (u ∷ l) y)))
              (λ g. omega (arith, member_false p (u ∷ l) g))) a,
        )))
        (λ g. every_false (λ p. count p (u ∷ l) ≤? 1) (u ∷ l) g (λ x m c. (x, a x m, twice l u x r (leb-false (count x (u ∷ l)) 1 c)))))
