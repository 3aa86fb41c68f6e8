-- What is found among kept bits.
use mathlib.Core.Path.{◌≡◌, refl, sym, ap}
use mathlib.Core.Bool.{Bool}
use mathlib.Core.List.{List, [], ◌∷◌, ◌++◌, map}
use Prim.Native.Nat.{ℕ, ◌<◌}
use native.Mathlib.Omega.{arith}
use borrow.Author.Tests.{eqb-true, eqb-false}
use Rattle.std.specs.Prelude.{Option, None, Some, ◌==◌}
use Rattle.laws.specs.Lists.{count}
use Rattle.laws.proofs.Tests.{by_test, one_eq, one_ne}
use Rattle.rules.specs.Work.{Kept, look, kept}

-- the pins whose bits are kept
abbrev pub pins : List Kept → List ℕ
pins mem = map (λ r. r.pin) mem

pub look-left : (mem more : List Kept) (u : ℕ) (b : Bool) → look mem u ≡ Some b → look (mem ++ more) u ≡ Some b
look-left [] more u b e = let z : ◌≡◌ {A = ℕ} 0 1 = cc in absurd (omega arith)
look-left (r ∷ mem) more u b e = by_test (u == r.pin)
    (λ t. rw t (rw t at e))
    (λ f. rw f (look-left mem more u b (rw f at e)))

pub look-right : (mem more : List Kept) (u : ℕ) → count u (pins mem) ≡ 0 → look (mem ++ more) u ≡ look more u
look-right [] more u n = refl
look-right (r ∷ mem) more u n = by_test (u == r.pin)
    (λ t. absurd (omega (arith, one_eq u r.pin (eqb-true u r.pin t))))
    (λ f. rw f (look-right mem more u (omega arith)))

pub look_none : (mem : List Kept) (u : ℕ) → count u (pins mem) ≡ 0 → look mem u ≡ None
look_none [] u n = refl
look_none (r ∷ mem) u n = by_test (u == r.pin)
    (λ t. absurd (omega (arith, one_eq u r.pin (eqb-true u r.pin t))))
    (λ f. rw f (look_none mem u (omega arith)))

pub look-kept : (w : ℕ → Option Bool) (ps : List ℕ) (u : ℕ) → 0 < count u ps → look (kept w ps) u ≡ w u
look-kept w [] u m = absurd (omega arith)
look-kept w (p ∷ ps) u m = by_test (u == p)
    (λ t. rw t (ap w (sym (eqb-true u p t))))
    (λ f. rw f (look-kept w ps u (omega (arith, one_ne u p (eqb-false u p f)))))

pub pins_kept : (w : ℕ → Option Bool) (ps : List ℕ) → pins (kept w ps) ≡ ps
pins_kept w [] = refl
pins_kept w (p ∷ ps) = ap (λ r. p ∷ r) (pins_kept w ps)
