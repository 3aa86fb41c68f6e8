-- What the tests of `next` say of its answer. t, s, a, v, b and z are words that it read.
use mathlib.Core.Path.{◌≡◌, refl, sym, ap, ◌∙◌}
use mathlib.Core.List.{List}
use Prim.Native.Nat.{ℕ, ◌+◌, ◌*◌, ◌/◌, ◌<◌, ◌≤◌}
use native.Mathlib.Omega.{arith}
use lib.ListN.{length, get_or}
use Rattle.walk.specs.State.{first_of, second_of, Operands, Next}
use Rattle.walk.specs.State.Next.{source, stopped, done, first, second}

module _ (ws : List ℕ) (m : ℕ) (w : List ℕ) (p : ℕ) where
  pub at_source : (t : ℕ) → t ≡ get_or ws (3 * p) 0 → (t ≡ 1 → ⊥) → Next ws m w p 0
  at_source t e n = source (λ q. n (e ∙ q)) refl

  pub at_stop : (s : ℕ) → s ≡ get_or w (m + p) 0 → (s ≡ 0 → ⊥) → Next ws m w p 0
  at_stop s e n = stopped (λ q. n (e ∙ q)) refl

  -- where the marks of the operands stand
  module _ (t x : ℕ) (et : t ≡ get_or ws (3 * p) 0) (gt : t ≡ 1) (o : Operands ws m) (l : p < m) (h : 4 * m ≤ length w) where
    pub first_in : x ≡ get_or ws (3 * p + 1) 0 → x / 2 < length w
    first_in e = omega (arith, o.first_less p l (sym et ∙ gt), ap (λ (y : ℕ). y / 2) e)

    pub second_in : x ≡ get_or ws (3 * p + 2) 0 → x / 2 < length w
    second_in e = omega (arith, o.second_less p l (sym et ∙ gt), ap (λ (y : ℕ). y / 2) e)

  module _ (t s : ℕ) (et : t ≡ get_or ws (3 * p) 0) (gt : t ≡ 1) (es : s ≡ get_or w (m + p) 0) (gs : s ≡ 0) (a : ℕ) (ea : a ≡ get_or ws (3 * p + 1) 0) where
    first_is : a / 2 ≡ first_of ws p
    first_is = ap (λ (x : ℕ). x / 2) ea

    module _ (v : ℕ) (ev : v ≡ get_or w (a / 2) 0) where
      mark_first : v ≡ get_or w (first_of ws p) 0
      mark_first = ev ∙ ap (λ (x : ℕ). get_or w x 0) first_is

      pub to_first : v ≡ 0 → Next ws m w p (a / 2)
      to_first z = first (sym et ∙ gt) (sym es ∙ gs) (sym mark_first ∙ z) first_is

      module _ (n : v ≡ 0 → ⊥) (b : ℕ) (eb : b ≡ get_or ws (3 * p + 2) 0) where
        second_is : b / 2 ≡ second_of ws p
        second_is = ap (λ (x : ℕ). x / 2) eb

        module _ (z : ℕ) (ez : z ≡ get_or w (b / 2) 0) where
          mark_second : z ≡ get_or w (second_of ws p) 0
          mark_second = ez ∙ ap (λ (x : ℕ). get_or w x 0) second_is

          pub to_second : z ≡ 0 → Next ws m w p (b / 2)
          to_second y = second (sym et ∙ gt) (sym es ∙ gs) (λ q. n (mark_first ∙ q)) (sym mark_second ∙ y) second_is

          pub to_none : (z ≡ 0 → ⊥) → Next ws m w p 0
          to_none y = done (sym et ∙ gt) (λ q. n (mark_first ∙ q)) (λ q. y (mark_second ∙ q)) refl
