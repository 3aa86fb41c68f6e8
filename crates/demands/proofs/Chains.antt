-- No chain of gates in a stage is longer than the stage is high.
use Rattle.std.specs.Prelude.{Option, Some}
use mathlib.Core.Path.{◌≡◌, refl, sym, subst}
use mathlib.Core.Logic.{◌⊎◌, inl, inr}
use mathlib.Core.List.{List}
use Prim.Native.Nat.{ℕ, ◌-◌, ◌≤◌, ◌<◌}
use native.Mathlib.Omega.{arith}
use borrow.Author.Tests.{leb-true}
use Rattle.laws.specs.Lists.{count, flat}
use Rattle.laws.specs.Search.{level}
use Rattle.laws.proofs.Tests.{one_eq}
use Rattle.laws.proofs.Bags.{of_append, of_flat, every_true}
use Rattle.laws.proofs.Levels.{level_lt}
use Rattle.rules.specs.Graph.{pin_of, gate, operands, Graph, driver_of}
use Rattle.rules.specs.Stages.{inputs, back, low, split, Stage, Row}
use Rattle.rules.specs.Work.{Met, root, behind, GateChain, single, longer, stage_roots}
use Rattle.cuts.specs.Checked.{Checked}
use Rattle.cuts.specs.Turns.{difference}
use Rattle.cuts.proofs.Operands.{back_below, back_go}
use Rattle.cuts.proofs.Exact.{handed_low}
use Rattle.cuts.proofs.Next.{taken_low}
use Rattle.cuts.proofs.Stages.{IsSplit}
use Rattle.demands.specs.Demand3.{Short}

module _ (g : Graph) (ck : Checked g) where
  operand_in : (o a b : ℕ) → (o ≡ pin_of a) ⊎ (o ≡ pin_of b) → 0 < count o (operands (gate a b))
  operand_in o a b (inl e) = omega (arith, one_eq o (pin_of a) e)
  operand_in o a b (inr e) = omega (arith, one_eq o (pin_of b) e)

  -- where all roots have a level of at most d, so have all pins met, and a chain is no longer than its first gate is high
  module _ (before roots : List ℕ) (d : ℕ) (h : (u : ℕ) → 0 < count u roots → level (back g before) u ≤ d) where
    met_low : {u : ℕ} → Met g before roots u → level (back g before) u ≤ d
    met_low {u} (root m) = h u m
    met_low {u} (behind {u = v} w m) = omega (arith, met_low w, level_lt (back g before) (back_below g ck before) v u m)

    steps_down : (u a b o : ℕ) → count u before ≡ 0 → driver_of g u ≡ gate a b → (o ≡ pin_of a) ⊎ (o ≡ pin_of b)
        → level (back g before) o < level (back g before) u
    steps_down u a b o n e w = level_lt (back g before) (back_below g ck before) u o (rw (back_go g before u n) (rw e (operand_in o a b w)))

    chain_level : {u k : ℕ} → GateChain g before roots u k → k ≤ level (back g before) u
    chain_level (single {u = u} {a = a} {b = b} w n e) = omega (arith, steps_down u a b (pin_of a) n e (inl refl))
    chain_level (longer {u = u} {a = a} {b = b} {o = o} w n e x c) = omega (arith, chain_level c, steps_down u a b o n e x)

    chain_top : {u k : ℕ} → GateChain g before roots u k → level (back g before) u ≤ d
    chain_top (single w n e) = met_low w
    chain_top (longer w n e x c) = met_low w

    pub chain_short : {u k : ℕ} → GateChain g before roots u k → k ≤ d
    chain_short c = omega (arith, chain_level c, chain_top c)

  -- what a stage takes and hands on is low
  pub roots_low : (left before : List ℕ) (d u : ℕ) → 0 < count u (stage_roots g (split g left before (Some d))) → level (back g before) u ≤ d
  roots_low left before d u m = of_append u (flat (inputs g) s.taken) s.handed m
      (λ k. of_flat (inputs g) u s.taken k (λ e me mi.
      leb-true (level (back g before) u) d (every_true (low g before (Some d)) u (inputs g e) (taken_low g left before (Some d) e me) mi)))
      (λ k. leb-true (level (back g before) u) d (handed_low g left before (Some d) u k))
    where
      s : Stage
      s = split g left before (Some d)

  pub split_short : (left before : List ℕ) (r : Row) → IsSplit g left before r → Short g left before r
  split_short left before r e b u k eb c =
      let e' : r.stage ≡ split g left before (Some (b - r.lower)) = subst (λ (x : Option ℕ). r.stage ≡ split g left before (difference r.lower x)) eb e in
      chain_short before (stage_roots g r.stage) (b - r.lower)
      (subst (λ (s : Stage). (v : ℕ) → 0 < count v (stage_roots g s) → level (back g before) v ≤ b - r.lower) (sym e')
      (roots_low left before (b - r.lower))) c
