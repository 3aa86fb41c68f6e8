-- A row of four words behind what a table holds.
use mathlib.Core.Path.{◌≡◌, refl, subst}
use mathlib.Core.List.{List, [], ◌∷◌}
use Prim.Native.Nat.{ℕ, ◌+◌, ◌-◌, ◌<◌, ◌≤◌}
use native.Mathlib.Omega.{arith}
use lib.ListN.{length, set, length-set}
use Rattle.picks.specs.Tables.{Open, Full, Pushed}
use Rattle.picks.proofs.Pushes.{push_one, pushed_on}

module _ (t : List ℕ) (n a b c d : ℕ) (o : Open t n) where
  pub row_full : length t - n < 4 → Full t n (a ∷ b ∷ c ∷ d ∷ []) t
  row_full l = record { small = omega (arith, o.inside); long = refl }

  module _ (l : 4 ≤ length t - n) where
    pub row_1 : n < length t
    row_1 = omega (arith, o.inside)

    pub row_2 : n + 1 < length (set t n a)
    row_2 = omega (arith, length-set t n a, o.inside)

    pub row_3 : n + 2 < length (set (set t n a) (n + 1) b)
    row_3 = omega (arith, length-set t n a, length-set (set t n a) (n + 1) b, o.inside)

    pub row_4 : n + 3 < length (set (set (set t n a) (n + 1) b) (n + 2) c)
    row_4 = omega (arith, length-set t n a, length-set (set t n a) (n + 1) b, length-set (set (set t n a) (n + 1) b) (n + 2) c, o.inside)

    one_at : (t' : List ℕ) (k v i : ℕ) → k ≡ i → Open t' k → k < length t' → Pushed t' k (v ∷ []) (set t' i v) (i + 1)
    one_at t' k v i e o' h = subst (λ (x : ℕ). Pushed t' k (v ∷ []) (set t' x v) (x + 1)) e (push_one t' k v o' h)

    pub row_done : Pushed t n (a ∷ b ∷ c ∷ d ∷ []) (set (set (set (set t n a) (n + 1) b) (n + 2) c) (n + 3) d) (n + 4)
    row_done =
        let e2 : n + 1 + 1 ≡ n + 2 = omega arith in
        let e3 : n + 2 + 1 ≡ n + 3 = omega arith in
        let e4 : n + 3 + 1 ≡ n + 4 = omega arith in
        let t1 = set t n a in let t2 = set t1 (n + 1) b in let t3 = set t2 (n + 2) c in let t4 = set t3 (n + 3) d in
        let p1 : Pushed t n (a ∷ []) (set t n a) (n + 1) = one_at t n a n refl o row_1 in
        let q2 : Pushed (set t n a) (n + 1) (b ∷ []) (set (set t n a) (n + 1) b) (n + 1 + 1) = one_at (set t n a) (n + 1) b (n + 1) refl p1.ready row_2 in
        let p2 : Pushed t n (a ∷ b ∷ []) t2 (n + 2) = subst (λ (x : ℕ). Pushed t n (a ∷ b ∷ []) t2 x) e2 (pushed_on t n (a ∷ []) t1 (n + 1) p1 (b ∷ []) t2 (n + 1 + 1) q2 o) in
        let q3 : Pushed t2 (n + 2) (c ∷ []) t3 (n + 2 + 1) = one_at t2 (n + 2) c (n + 2) refl p2.ready row_3 in
        let p3 : Pushed t n (a ∷ b ∷ c ∷ []) t3 (n + 3) = subst (λ (x : ℕ). Pushed t n (a ∷ b ∷ c ∷ []) t3 x) e3 (pushed_on t n (a ∷ b ∷ []) t2 (n + 2) p2 (c ∷ []) t3 (n + 2 + 1) q3 o) in
        let q4 : Pushed t3 (n + 3) (d ∷ []) t4 (n + 3 + 1) = one_at t3 (n + 3) d (n + 3) refl p3.ready row_4 in
        subst (λ (x : ℕ). Pushed t n (a ∷ b ∷ c ∷ d ∷ []) t4 x) e4 (pushed_on t n (a ∷ b ∷ c ∷ []) t3 (n + 3) p3 (d ∷ []) t4 (n + 3 + 1) q4 o)
