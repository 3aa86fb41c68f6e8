-- Numbers and counts as they are told, and the tables that stay or are 0.
use mathlib.Core.Path.{◌≡◌, refl, sym, ap, ◌∙◌}
use mathlib.Core.List.{List, [], ◌∷◌}
use Prim.Native.Nat.{ℕ, zero, suc, ◌<◌, ◌≤◌}
use native.Mathlib.Omega.{arith}
use borrow.Author.Tests.{eq-eqb, ne_eqb, le-leb, lt-leb, leb-true, leb-false, eqb-true, eqb-false}
use lib.ListN.{length, set}
use Rattle.std.specs.Prelude.{◌==◌}
use Rattle.laws.specs.Tests.{◌≤?◌}
use Rattle.laws.specs.Words.{zeros, filled}
use Rattle.laws.proofs.Tests.{by_test}
use Rattle.laws.proofs.Words.{zeros-length, filled_none, filled_more}
use Rattle.rules.specs.Tables.{held}
use Rattle.tells.specs.declared.Told.{Told}
use Rattle.tells.specs.Telling.{told_number, told_counts, Tells, kept}

-- ---- the number
pub told_1 : (room k : ℕ) → k ≡ 1 → 1 ≡ told_number room k
unfolding told_number
told_1 room k e = sym (rw (eq-eqb k 1 e))

pub told_2 : (room k : ℕ) → (k ≡ 1 → ⊥) → room < 3 → 2 ≡ told_number room k
unfolding told_number
told_2 room k n l = sym (rw (ne_eqb k 1 n, lt-leb 3 room l))

pub told_rest : (room k : ℕ) → (k ≡ 1 → ⊥) → 3 ≤ room → k ≡ told_number room k
unfolding told_number
told_rest room k n l = sym (rw (ne_eqb k 1 n, le-leb 3 room l))

-- a success is one of the call itself, with room for the counts
told-both : (room k : ℕ) → told_number room k ≡ 0 → (k ≡ 0) × (3 ≤ room)
told-both room k e = by_test (k == 1)
    (λ t. let z : ◌≡◌ {A = ℕ} 1 0 = told_1 room k (eqb-true k 1 t) ∙ e in absurd (omega arith))
    (λ f. by_test (3 ≤? room)
    (λ t. (told_rest room k (eqb-false k 1 f) (leb-true 3 room t) ∙ e, leb-true 3 room t))
    (λ g. let z : ◌≡◌ {A = ℕ} 2 0 = told_2 room k (eqb-false k 1 f) (leb-false 3 room g) ∙ e in absurd (omega arith)))

pub told_zero : (room k : ℕ) → told_number room k ≡ 0 → k ≡ 0
told_zero room k e = (told-both room k e).0

-- ---- what a table holds by a number
pub held_same : (k : ℕ) (a b : List ℕ) (room : ℕ) → (k ≡ 0 → a ≡ b) → held k a room ≡ held k b room
held_same zero a b room f = ap (λ (x : List ℕ). filled x room) (f refl)
held_same (suc k) a b room f = refl

-- a table that a call left by its own number, kept by the number that is told
pub kept-held : (r k : ℕ) (ws a : List ℕ) (room : ℕ) → (r ≡ 0 → k ≡ 0) → a ≡ held k ws room → length a ≡ room → kept r a ≡ held r ws room
kept-held zero k ws a room f e l = e ∙ ap (λ (x : ℕ). held x ws room) (f refl)
kept-held (suc r) k ws a room f e l = ap zeros l

-- ---- the counts
pub three-put : (ws : List ℕ) (a b c : ℕ) → ws ≡ zeros (length ws) → 3 ≤ length ws → set (set (set ws 0 a) 1 b) 2 c ≡ filled (a ∷ b ∷ c ∷ []) (length ws)
three-put ws a b c z l =
    ap (λ (w : List ℕ). set (set (set w 0 a) 1 b) 2 c) (z ∙ sym (filled_none (length ws)))
    ∙ ap (λ (w : List ℕ). set (set w 1 b) 2 c) (filled_more [] (length ws) a (omega arith))
    ∙ ap (λ (w : List ℕ). set w 2 c) (filled_more (a ∷ []) (length ws) b (omega arith))
    ∙ filled_more (a ∷ b ∷ []) (length ws) c (omega arith)

module _ (t : Told) (n n₁ : List ℕ) (k : ℕ) (ez : n₁ ≡ zeros (length n)) (ek : k ≡ told_number (length n₁) t.number) where
  long : length n₁ ≡ length n
  long = ap length ez ∙ zeros-length (length n)

  number_is : k ≡ told_number (length n) t.number
  number_is = ek ∙ ap (λ (x : ℕ). told_number x t.number) long

  held_none : (j : ℕ) → (j ≡ 0 → ⊥) → zeros (length n) ≡ held j (told_counts t) (length n)
  held_none zero f = absurd (f refl)
  held_none (suc j) f = refl

  pub tell_refused : (k ≡ 0 → ⊥) → Tells t n n₁ k
  tell_refused f = record { answer = number_is; counts = ez ∙ held_none k f }

  module _ (z : k ≡ 0) where
    pub tell_zeroed : n₁ ≡ zeros (length n₁)
    tell_zeroed = ez ∙ ap zeros (sym long)

    pub tell_roomy : 3 ≤ length n₁
    tell_roomy = (told-both (length n₁) t.number (sym ek ∙ z)).1

    pub tell_done : (n₂ : List ℕ) → n₂ ≡ filled (t.first ∷ t.second ∷ t.third ∷ []) (length n₁) → Tells t n n₂ k
    tell_done n₂ e = record {
      answer = number_is;
      counts = e ∙ ap (filled (told_counts t)) long ∙ sym (ap (λ (x : ℕ). held x (told_counts t) (length n)) z);
    }
