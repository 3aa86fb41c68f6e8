-- One fold, `over`, is every loop: invariants of it, one step more, and two folds that are the same.
use mathlib.Core.Path.{◌≡◌, refl, sym, ◌∙◌, ap, subst}
use mathlib.Core.List.{List, [], ◌∷◌, ◌++◌, map}
use Prim.Native.Nat.{ℕ, suc, ◌+◌, ◌≤◌, ◌<◌}
use native.Mathlib.Omega.{arith}
use lib.ListN.{length, get_or, take, drop}
use lib.Seq.{take-suc, drop-cons}
use Rattle.laws.specs.Lists.{count, flat, over}
use Rattle.laws.proofs.Bags.{at_head, here, there}

-- an invariant of a fold: with what holds of each member, with membership, and with neither
pub walk_inv : {A : Type 0} (I : A → Type 0) (h : A → ℕ → A) (us : List ℕ) (s : A) → ((s' : A) (u : ℕ) → 0 < count u us → I s' → I (h s' u)) → I s → I (over h s us)
walk_inv I h [] s step i = i
walk_inv I h (u ∷ us) s step i = walk_inv I h us (h s u) (λ s' v m. step s' v (there v u us m)) (step s u (here u us) i)

pub over_inv : {A : Type 0} (I : A → Type 0) (Q : ℕ → Type 0) (h : A → ℕ → A)
    → ((s : A) (u : ℕ) → I s → Q u → I (h s u)) → (us : List ℕ) (s : A) → I s → ((u : ℕ) → 0 < count u us → Q u) → I (over h s us)
over_inv I Q h step us s i q = walk_inv I h us s (λ s' u m j. step s' u j (q u m)) i

pub over_keeps : {A B : Type 0} (I : A → Type 0) (h : A → B → A) → ((s : A) (u : B) → I s → I (h s u)) → (us : List B) (s : A) → I s → I (over h s us)
over_keeps I h step [] s i = i
over_keeps I h step (u ∷ us) s i = over_keeps I h step us (h s u) (step s u i)

-- an invariant that speaks of what is done, the last first
abbrev pub behind : List ℕ → List ℕ → List ℕ
behind done [] = done
behind done (u ∷ us) = behind (u ∷ done) us

pub count_behind : (us done : List ℕ) (x : ℕ) → count x (behind done us) ≡ count x done + count x us
count_behind [] done x = omega arith
count_behind (u ∷ us) done x = omega (arith, count_behind us (u ∷ done) x)

pub over_done : {A : Type 0} (I : List ℕ → A → Type 0) (Q : ℕ → Type 0) (h : A → ℕ → A) → ((done : List ℕ) (s : A) (u : ℕ) → Q u → I done s → I (u ∷ done) (h s u))
    → (us done : List ℕ) (s : A) → ((u : ℕ) → 0 < count u us → Q u) → I done s → I (behind done us) (over h s us)
over_done I Q h step [] done s q i = i
over_done I Q h step (u ∷ us) done s q i = over_done I Q h step us (u ∷ done) (h s u) (λ w m. q w (there w u us m)) (step done s u (q u (here u us)) i)

-- one step more, as a program's loop takes it: at the end, and by index
module _ {A B : Type 0} (h : A → B → A) where
  pub over_snoc : (s : A) (xs : List B) (x : B) → over h s (xs ++ (x ∷ [])) ≡ h (over h s xs) x
  over_snoc s [] x = refl
  over_snoc s (y ∷ xs) x = over_snoc (h s y) xs x

  pub over-append : (s : A) (xs ys : List B) → over h s (xs ++ ys) ≡ over h (over h s xs) ys
  over-append s [] ys = refl
  over-append s (x ∷ xs) ys = over-append (h s x) xs ys

  pub over-take : (s : A) (xs : List B) (i : ℕ) (d : B) → i < length xs → over h s (take (suc i) xs) ≡ h (over h s (take i xs)) (get_or xs i d)
  over-take s xs i d l = ap (over h s) (take-suc xs i d l) ∙ over_snoc s (take i xs) (get_or xs i d)

  pub over-drop : (s : A) (xs : List B) (i : ℕ) (d : B) → i < length xs → over h s (drop i xs) ≡ over h (h s (get_or xs i d)) (drop (suc i) xs)
  over-drop s xs i d l = ap (over h s) (drop-cons xs i d l)

-- a fold over lists joined, or seen through a function
pub over-flat : {A B C : Type 0} (h : A → C → A) (f : B → List C) (s : A) (us : List B) → over h s (flat f us) ≡ over (λ t u. over h t (f u)) s us
over-flat h f s [] = refl
over-flat h f s (u ∷ us) = over-append h s (f u) (flat f us) ∙ over-flat h f (over h s (f u)) us

pub over-map : {A B C : Type 0} (h : A → C → A) (f : B → C) (s : A) (us : List B) → over h s (map f us) ≡ over (λ t u. h t (f u)) s us
over-map h f s [] = refl
over-map h f s (u ∷ us) = over-map h f (h s (f u)) us

-- two folds whose steps agree on the members, or only where an invariant holds
pub over-same : {A : Type 0} (h k : A → ℕ → A) (us : List ℕ) (s : A) → ((s' : A) (u : ℕ) → 0 < count u us → h s' u ≡ k s' u) → over h s us ≡ over k s us
over-same h k [] s e = refl
over-same h k (u ∷ us) s e = over-same h k us (h s u) (λ s' v m. e s' v (there v u us m)) ∙ ap (λ z. over k z us) (e s u (here u us))

pub over-same_where : {A : Type 0} (I : A → Type 0) (h k : A → ℕ → A) (us : List ℕ) (s : A) → I s
    → ((s' : A) (u : ℕ) → 0 < count u us → I s' → I (h s' u)) → ((s' : A) (u : ℕ) → 0 < count u us → I s' → h s' u ≡ k s' u) → over h s us ≡ over k s us
over-same_where I h k [] s i step e = refl
over-same_where I h k (u ∷ us) s i step e =
    over-same_where I h k us (h s u) (step s u (here u us) i) (λ s' v m. step s' v (there v u us m)) (λ s' v m. e s' v (there v u us m))
    ∙ ap (λ z. over k z us) (e s u (here u us) i)

-- a step that changes nothing
pub over_idle : {A : Type 0} (h : A → ℕ → A) (us : List ℕ) (s : A) → ((u : ℕ) → 0 < count u us → h s u ≡ s) → over h s us ≡ s
over_idle h [] s e = refl
over_idle h (u ∷ us) s e = ap (λ z. over h z us) (e u (here u us)) ∙ over_idle h us s (λ v m. e v (there v u us m))

-- a list that only grows, and has what each step puts into it
pub over_grows : (h : List ℕ → ℕ → List ℕ) → ((s : List ℕ) (u p : ℕ) → count p s ≤ count p (h s u)) → (us s : List ℕ) (p : ℕ) → count p s ≤ count p (over h s us)
over_grows h g [] s p = omega arith
over_grows h g (u ∷ us) s p = omega (arith, over_grows h g us (h s u) p, g s u p)

pub over_has : (h : List ℕ → ℕ → List ℕ) → ((s : List ℕ) (u p : ℕ) → count p s ≤ count p (h s u)) → ((s : List ℕ) (u : ℕ) → 0 < count u (h s u))
    → (us s : List ℕ) (p : ℕ) → 0 < count p us → 0 < count p (over h s us)
over_has h g k [] s p m = absurd (omega arith)
over_has h g k (u ∷ us) s p m = at_head p u us m
    (λ e. omega (arith, over_grows h g us (h s u) p, subst (λ (z : ℕ). 0 < count z (h s u)) (sym e) (k s u)))
    (λ m'. over_has h g k us (h s u) p m')
