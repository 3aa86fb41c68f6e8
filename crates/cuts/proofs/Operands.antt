-- Where a visit goes from a pin: to the operands of a gate, which are smaller pins and never pin 0, and not past a pin handed on before.
use Rattle.std.specs.Prelude.{Option, None, Some}
use mathlib.Core.Path.{◌≡◌, refl, ◌∙◌, ap, subst}
use mathlib.Core.Bool.{true}
use mathlib.Core.List.{List, [], ◌∷◌}
use Prim.Native.Nat.{ℕ, ◌<◌}
use native.Mathlib.Omega.{arith}
use borrow.Author.Tests.{le-leb}
use Rattle.laws.specs.Lists.{count, member}
use Rattle.laws.specs.Search.{above, level}
use Rattle.laws.proofs.Tests.{by_test}
use Rattle.laws.proofs.Bags.{member_true, member_false, is_member, no_member, at_head}
use Rattle.laws.proofs.Levels.{level_is}
use Rattle.rules.specs.declared.Driver.{Driver}
use Rattle.rules.specs.declared.Driver.TheVariants.{And, Port, Flag, Dff, Ram, Constant}
use Rattle.rules.specs.Graph.{pin_of, operands, Graph, driver_of}
use Rattle.rules.specs.Stages.{back, within}
use Rattle.cuts.specs.Checked.{Checked}

-- level 0 is within any difference
pub within_zero : (d : Option ℕ) → within d 0 ≡ true
within_zero None = refl
within_zero (Some d) = le-leb 0 d (omega arith)

module _ (g : Graph) (before : List ℕ) where
  -- no visit passes a pin handed on before
  pub back_stop : (u : ℕ) → 0 < count u before → back g before u ≡ []
  back_stop u m = rw (is_member u before m)

  pub back_go : (u : ℕ) → count u before ≡ 0 → back g before u ≡ operands (driver_of g u)
  back_go u n = rw (no_member u before n)

  pub back_free : (u o : ℕ) → 0 < count o (back g before u) → count u before ≡ 0
  back_free u o m = by_test (member u before)
      (λ t. absurd (omega (arith, subst (λ (l : List ℕ). 0 < count o l) (back_stop u (member_true u before t)) m)))
      (λ n. member_false u before n)

  pub back_operand : (u o : ℕ) → 0 < count o (back g before u) → 0 < count o (operands (driver_of g u))
  back_operand u o m = subst (λ (l : List ℕ). 0 < count o l) (back_go u (back_free u o m)) m

module _ (g : Graph) (ck : Checked g) where
  operand_of : (u o : ℕ) (dr : Driver) → driver_of g u ≡ dr → 0 < count o (operands dr) → (0 < o) × (o < u)
  operand_of u o (And a b) e m =
      let w = ck.operands_fit u a.word b.word e in
      at_head o (pin_of a.word) (pin_of b.word ∷ []) m
      (λ h. rw h (w.0, w.1))
      (λ m'. at_head o (pin_of b.word) [] m' (λ h. rw h (w.2, w.3)) (λ z. absurd (omega arith)))
  operand_of u o (Port q) e m = absurd (omega arith)
  operand_of u o (Flag q f) e m = absurd (omega arith)
  operand_of u o (Dff c) e m = absurd (omega arith)
  operand_of u o (Ram c) e m = absurd (omega arith)
  operand_of u o Constant e m = absurd (omega arith)

  pub operands-below : (u o : ℕ) → 0 < count o (operands (driver_of g u)) → o < u
  operands-below u o m = (operand_of u o (driver_of g u) refl m).1

  pub back_below : (before : List ℕ) (u o : ℕ) → 0 < count o (back g before u) → o < u
  back_below before u o m = operands-below u o (back_operand g before u o m)

  pub back_positive : (before : List ℕ) (u o : ℕ) → 0 < count o (back g before u) → 0 < o
  back_positive before u o m = (operand_of u o (driver_of g u) refl (back_operand g before u o m)).0

  -- a source, or a pin handed on before, has level 0
  pub level-none : (before : List ℕ) (u : ℕ) → back g before u ≡ [] → level (back g before) u ≡ 0
  level-none before u e = level_is (back g before) (back_below before) u ∙ ap (above (level (back g before))) e

  pub level_stop : (before : List ℕ) (u : ℕ) → 0 < count u before → level (back g before) u ≡ 0
  level_stop before u m = level-none before u (back_stop g before u m)
