-- The cells' rules have exactly one answer: an accepted netlist can be evaluated, and any two assignments that obey agree at each pin that
-- has a logic bit.
use mathlib.Core.Path.{◌≡◌, refl, sym, ◌∙◌}
use mathlib.Core.Bool.{Bool, false}
use Prim.Native.Nat.{ℕ, zero, suc, ◌<◌}
use native.Mathlib.Omega.{arith}
use Rattle.laws.specs.Lists.{count}
use Rattle.rules.specs.Netlist.{Netlist, size}
use Rattle.rules.specs.Cells.{Env, Logic, CellRules}
use Rattle.rules.specs.Build.{role, next}
use Rattle.rules.specs.Refusals.{Accepted}
use Rattle.rules.proofs.Accepts.{rank_of, rank_low, visits_fall}
use Rattle.builds.proofs.Logics.{visited_logic}
use Rattle.builds.proofs.Cells.{rule, Obeys, rule_same, obeys_iff}

-- the netlist evaluated: from the role of a pin, and what it visits
abbrev pub val_by : Netlist → Env → ℕ → ℕ → Bool
val_by n env zero p = false
val_by n env (suc f) p = rule n env (val_by n env f) p (role n p)

abbrev pub val : Netlist → Env → ℕ → Bool
val n env p = val_by n env (size n) p

module _ (n : Netlist) (acc : Accepted n) (env : Env) where
  abbrev rk : ℕ → ℕ
  rk = rank_of n acc.tables acc.no_loop

  low : (p : ℕ) → p < size n → rk p < size n
  low p h = rank_low n acc.tables acc.no_loop p h

  falls : (u o : ℕ) → u < size n → 0 < count o (next n u) → (o < size n) × (rk o < rk u)
  falls u o h m = visits_fall n acc.tables acc.no_loop u o h m

  val_fuel : (f g p : ℕ) → p < size n → rk p < f → rk p < g → val_by n env f p ≡ val_by n env g p
  val_fuel zero g p h a b = absurd (omega arith)
  val_fuel (suc f) zero p h a b = absurd (omega arith)
  val_fuel (suc f) (suc g) p h a b = rule_same n env (val_by n env f) (val_by n env g) p (role n p)
      (λ o m. let w = falls p o h m in val_fuel f g o w.0 (omega (arith, w.1)) (omega (arith, w.1)))

  -- there is one
  pub val_obeys : Obeys n env (val n env)
  val_obeys p h l = val_fuel (size n) (suc (size n)) p h (low p h) (omega (arith, low p h))

  -- and no other
  same_by : (v w : ℕ → Bool) → Obeys n env v → Obeys n env w → (f p : ℕ) → rk p < f → p < size n → Logic n p → v p ≡ w p
  same_by v w ov ow zero p a h l = absurd (omega arith)
  same_by v w ov ow (suc f) p a h l = ov p h l
      ∙ rule_same n env v w p (role n p) (λ o m. let d = falls p o h m in same_by v w ov ow f o (omega (arith, d.1)) d.0 (visited_logic n acc p o (role n p) h l refl m))
      ∙ sym (ow p h l)

  pub one_assignment : (v w : ℕ → Bool) → CellRules n env v → CellRules n env w → (p : ℕ) → p < size n → Logic n p → v p ≡ w p
  one_assignment v w cv cw p h l = same_by v w ((obeys_iff n acc.tables env v).0 cv) ((obeys_iff n acc.tables env w).0 cw) (size n) p (low p h) h l
