-- Where no way leads back there is a rank that falls with each step, and the other way round: so a computed test says which it is.
use mathlib.Core.Path.{◌≡◌, refl, sym, subst}
use mathlib.Core.Bool.{true}
use mathlib.Core.List.{List, [], ◌∷◌}
use Prim.Native.Nat.{ℕ, zero, suc, ◌<◌}
use native.Mathlib.Omega.{arith}
use lib.ListN.{length}
use borrow.Author.Tests.{leb-true, leb-false, ltb-true, ltb-false, lt-ltb, eqb-true, eqb-false}
use Rattle.std.specs.Prelude.{◌==◌}
use Rattle.laws.specs.Tests.{◌<?◌, ◌≤?◌}
use Rattle.laws.specs.Lists.{count, member, every, upto}
use Rattle.laws.specs.Search.{above, level_by, Chain}
use Rattle.laws.specs.Search.Chain.{step, more}
use Rattle.laws.proofs.Tests.{by_test, one_ne, one_le}
use Rattle.laws.proofs.Bags.{member_true, member_false, at_head, every_true, every_false}
use Rattle.laws.proofs.Ranges.{every_upto, of_upto}
use Rattle.laws.proofs.Counting.{fits}
use Rattle.laws.proofs.Levels.{above_lt, above_same, above_got}

-- how many steps the longest run of at most n steps has
abbrev pub rank : (ℕ → List ℕ) → ℕ → ℕ → ℕ
rank nx n u = level_by nx n u

module _ (nx : ℕ → List ℕ) where
  -- a run of steps
  abbrev pub Linked : ℕ → List ℕ → Type 0
  Linked u [] = Unit {0}
  Linked u (o ∷ l) = (0 < count o (nx u)) × Linked o l

  -- each place of a run is reached, and one that comes twice comes back to itself
  reaches : (l : List ℕ) (u x : ℕ) → Linked u l → 0 < count x l → Chain nx u x
  reaches [] u x k m = absurd (omega arith)
  reaches (o ∷ l) u x k m = at_head x o l m
      (λ e. subst (λ (z : ℕ). Chain nx u z) (sym e) (step k.0))
      (λ m'. more k.0 (reaches l o x k.1 m'))

  twice : (l : List ℕ) (u x : ℕ) → Linked u l → 1 < count x (u ∷ l) → Chain nx x x
  twice [] u x k m = absurd (omega (arith, one_le (x == u)))
  twice (o ∷ l) u x k m = by_test (x == u)
      (λ t. subst (λ (z : ℕ). Chain nx z x) (sym (eqb-true x u t)) (reaches (o ∷ l) u x k (omega (arith, one_le (x == u)))))
      (λ f. twice l o x k.1 (omega (arith, one_ne x u (eqb-false x u f))))

  -- the longest run from a place is a run
  longest : {P : Type 0} (n : ℕ) (closed : (u o : ℕ) → u < n → 0 < count o (nx u) → o < n) (f u : ℕ) → u < n
      → ((l : List ℕ) → Linked u l → ((p : ℕ) → 0 < count p (u ∷ l) → p < n) → length l ≡ level_by nx f u → P) → P
  longest n closed zero u h k = k [] tt (λ p m. at_head p u [] m (λ e. omega arith) (λ m'. absurd (omega arith))) refl
  longest n closed (suc f) u h k = by_test (0 <? above (level_by nx f) (nx u))
      (λ t. above_got (level_by nx f) (nx u) (ltb-true 0 (above (level_by nx f) (nx u)) t) (λ o m e.
      longest n closed f o (closed u o h m) (λ l r a q. k (o ∷ l) (m, r) (λ p mp. at_head p u (o ∷ l) mp (λ e'. omega arith) (λ m'. a p m')) (omega (arith, q)))))
      (λ g. k [] tt (λ p m. at_head p u [] m (λ e. omega arith) (λ m'. absurd (omega arith))) (omega (arith, ltb-false 0 (above (level_by nx f) (nx u)) g)))

  module _ (n : ℕ) (closed : (u o : ℕ) → u < n → 0 < count o (nx u) → o < n) where
    -- pigeonhole: where no run comes back, it has less than n steps
    pub short_runs : ((p : ℕ) → p < n → Chain nx p p → ⊥) → (f u : ℕ) → u < n → level_by nx f u < n
    short_runs free f u h = longest n closed f u h (λ l r a q.
        by_test (every (λ p. count p (u ∷ l) ≤? 1) (u ∷ l))
        (λ t. omega (
          arith,
          q,
          fits n (u ∷ l) (λ p. by_test (member p (u ∷ l))
              (λ y. leb-true (count p (u ∷ l)) 1 (every_true (λ x. count x (u ∷ l) ≤? 1) p (u ∷ l) t (member_true p (u ∷ l) y)))
              (λ g. omega (arith, member_false p (u ∷ l) g))) a,
        ))
        (λ g. every_false (λ p. count p (u ∷ l) ≤? 1) (u ∷ l) g (λ x m c. absurd (free x (a x m) (twice l u x r (leb-false (count x (u ∷ l)) 1 c))))))

    -- what is not cut short by the fuel stays as it is
    stable : (f u : ℕ) → level_by nx f u < f → level_by nx (suc f) u ≡ level_by nx f u
    stable zero u h = absurd (omega arith)
    stable (suc f) u h = above_same (level_by nx (suc f)) (level_by nx f) (nx u) (λ o m. stable f o (omega (arith, above_lt (level_by nx f) (nx u) o m)))

    -- the computed test gives a rank
    pub rank_falls : ((u : ℕ) → u < n → rank nx n u < n) → (u o : ℕ) → u < n → 0 < count o (nx u) → (o < n) × (rank nx n o < rank nx n u)
    rank_falls low u o h m = (closed u o h m, omega (arith, above_lt (level_by nx n) (nx u) o m, stable n u (low u h)))

    -- and where there is a rank there is no loop
    pub chain_falls : (r : ℕ → ℕ) → ((u o : ℕ) → u < n → 0 < count o (nx u) → r o < r u) → (u w : ℕ) → u < n → Chain nx u w → (w < n) × (r w < r u)
    chain_falls r falls u w h (step m) = (closed u w h m, falls u w h m)
    chain_falls r falls u w h (more {o = o} m c) = let k = chain_falls r falls o w (closed u o h m) c in (k.0, omega (arith, k.1, falls u o h m))

    pub no_loop : (r : ℕ → ℕ) → ((u o : ℕ) → u < n → 0 < count o (nx u) → r o < r u) → (p : ℕ) → p < n → Chain nx p p → ⊥
    no_loop r falls p h c = omega (arith, (chain_falls r falls p p h c).1)

    -- so the computed test says exactly that there is no loop
    pub loop_test : (((p : ℕ) → p < n → Chain nx p p → ⊥) → (u : ℕ) → u < n → rank nx n u < n) × (((u : ℕ) → u < n → rank nx n u < n) → (p : ℕ) → p < n → Chain nx p p → ⊥)
    loop_test = ((λ free u h. short_runs free n u h), λ low. no_loop (rank nx n) (λ u o h m. (rank_falls low u o h m).1))

    -- the same as one computed test over all places
    pub loop_free_lem : every (λ u. rank nx n u <? n) (upto n) ≡ true → (p : ℕ) → p < n → Chain nx p p → ⊥
    loop_free_lem e = loop_test.1 (λ u h. ltb-true (rank nx n u) n (of_upto (λ x. rank nx n x <? n) n u e h))

    pub loop_freed : ((p : ℕ) → p < n → Chain nx p p → ⊥) → every (λ u. rank nx n u <? n) (upto n) ≡ true
    loop_freed free = every_upto (λ u. rank nx n u <? n) n (λ u h. lt-ltb (rank nx n u) n (loop_test.0 free u h))

  -- ways joined, and one step more
  pub on : {u w : ℕ} (o : ℕ) → Chain nx w u → 0 < count o (nx u) → Chain nx w o
  on o (step k) m = more k (step m)
  on o (more k c) m = more k (on o c m)

  pub chain_join : {u v w : ℕ} → Chain nx u v → Chain nx v w → Chain nx u w
  chain_join (step k) d = more k d
  chain_join (more k c) d = more k (chain_join c d)

-- where places lead to smaller ones only there is no way back
pub chain_below : (nx : ℕ → List ℕ) → ((u o : ℕ) → 0 < count o (nx u) → o < u) → (u w : ℕ) → Chain nx u w → w < u
chain_below nx below u w (step m) = below u w m
chain_below nx below u w (more {o = o} m c) = omega (arith, below u o m, chain_below nx below o w c)
