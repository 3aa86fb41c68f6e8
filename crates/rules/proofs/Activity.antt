-- A clock pin has one activity for an edge.
use mathlib.Core.Path.{◌≡◌, refl, sym, ◌∙◌, ap, ap₂, subst}
use mathlib.Core.Bool.{Bool, ◌&&◌}
use mathlib.Core.List.{List, [], ◌∷◌}
use Prim.Native.Nat.{ℕ}
use native.Mathlib.Omega.{arith}
use lib.ListN.{get_or, get_or-eq_default}
use borrow.Author.Tests.{ltb-true, ltb-false}
use Rattle.laws.specs.Tests.{◌<?◌}
use Rattle.laws.proofs.Tests.{by_test}
use Rattle.rules.specs.declared.Edge.{Edge}
use Rattle.rules.specs.declared.Edge.TheVariants.{Rising}
use Rattle.rules.specs.Netlist.{Netlist, cells, cell_of, kind_of, kind_table, Kind, top, inv, buf, clock_gate, unfit, named, pin_named, #A, #CP, #E}
use Rattle.rules.specs.Cells.{Env, other_edge, Active, ActiveFirst, ClockActive}
use Rattle.rules.specs.Cells.Active.{at_constant, at_port, through_inv, through_buf, through_gate}
use Rattle.rules.specs.Refusals.{tables_number}
use Rattle.rules.proofs.Tables.{clash, top_is_zero}

module _ (n : Netlist) (tab : tables_number n ≡ 0) (env : Env) (v : ℕ → Bool) where
  -- a port's cell is the top
  port_kind : (q : ℕ) → cell_of n q ≡ 0 → kind_of n (cell_of n q) ≡ top
  port_kind q e = ap (kind_of n) e ∙ by_test (0 <? cells n)
      (λ t. top_is_zero n tab (ltb-true 0 (cells n) t))
      (λ f. ap (λ (w : ℕ). get_or kind_table w unfit) (get_or-eq_default n.kinds 0 (ltb-false 0 (cells n) f)))

  -- one driver is of one kind
  apart : {P : Type 0} (q q' : ℕ) (k j : Kind) → kind_of n (cell_of n q) ≡ k → kind_of n (cell_of n q') ≡ j → q ≡ q' → (k ≡ j → ⊥) → P
  apart q q' k j a b e ne = absurd (ne (sym a ∙ ap (λ (x : ℕ). kind_of n (cell_of n x)) e ∙ b))

  -- what a walk asks next is the same behind the same driver
  onward : (q q' m : ℕ) (e : Edge) (x : Bool) → q ≡ q' → Active n env v (pin_named n (cell_of n q) m) e x → Active n env v (pin_named n (cell_of n q') m) e x
  onward q q' m e x w a = subst (λ (k : ℕ). Active n env v (pin_named n (cell_of n k) m) e x) w a

  pub one_activity : (p : ℕ) (e : Edge) (x y : Bool) → Active n env v p e x → Active n env v p e y → x ≡ y
  one_activity p e x y (at_constant o w) (at_constant o' w') = refl
  one_activity p e x y (at_constant o w) (at_port q' o' w' t' k') = absurd (omega (arith, w, w'))
  one_activity p e x y (at_constant o w) (through_inv q' o' w' t' k' a') = absurd (omega (arith, w, w'))
  one_activity p e x y (at_constant o w) (through_buf q' o' w' t' k' a') = absurd (omega (arith, w, w'))
  one_activity p e x y (at_constant o w) (through_gate q' o' w' t' k' a') = absurd (omega (arith, w, w'))
  one_activity p e x y (at_port q o w t k) (at_constant o' w') = absurd (omega (arith, w, w'))
  one_activity p e x y (at_port q o w t k) (at_port q' o' w' t' k') = ap (λ (r : ℕ). env.flag_bit r e) (omega (arith, w, w'))
  one_activity p e x y (at_port q o w t k) (through_inv q' o' w' t' k' a') = apart q q' top inv (port_kind q k) k' (omega (arith, w, w')) (λ z. clash (cc))
  one_activity p e x y (at_port q o w t k) (through_buf q' o' w' t' k' a') = apart q q' top buf (port_kind q k) k' (omega (arith, w, w')) (λ z. clash (cc))
  one_activity p e x y (at_port q o w t k) (through_gate q' o' w' t' k' a') = apart q q' top clock_gate (port_kind q k) k' (omega (arith, w, w')) (λ z. clash (cc))
  one_activity p e x y (through_inv q o w t k a) (at_constant o' w') = absurd (omega (arith, w, w'))
  one_activity p e x y (through_inv q o w t k a) (at_port q' o' w' t' k') = apart q q' inv top k (port_kind q' k') (omega (arith, w, w')) (λ z. clash (cc))
  one_activity p e x y (through_inv q o w t k a) (through_inv q' o' w' t' k' a') = one_activity (pin_named n (cell_of n q') #A) (other_edge e) x y (onward q q' #A (other_edge e) x (omega (arith, w, w')) a) a'
  one_activity p e x y (through_inv q o w t k a) (through_buf q' o' w' t' k' a') = apart q q' inv buf k k' (omega (arith, w, w')) (λ z. clash (cc))
  one_activity p e x y (through_inv q o w t k a) (through_gate q' o' w' t' k' a') = apart q q' inv clock_gate k k' (omega (arith, w, w')) (λ z. clash (cc))
  one_activity p e x y (through_buf q o w t k a) (at_constant o' w') = absurd (omega (arith, w, w'))
  one_activity p e x y (through_buf q o w t k a) (at_port q' o' w' t' k') = apart q q' buf top k (port_kind q' k') (omega (arith, w, w')) (λ z. clash (cc))
  one_activity p e x y (through_buf q o w t k a) (through_inv q' o' w' t' k' a') = apart q q' buf inv k k' (omega (arith, w, w')) (λ z. clash (cc))
  one_activity p e x y (through_buf q o w t k a) (through_buf q' o' w' t' k' a') = one_activity (pin_named n (cell_of n q') #A) e x y (onward q q' #A e x (omega (arith, w, w')) a) a'
  one_activity p e x y (through_buf q o w t k a) (through_gate q' o' w' t' k' a') = apart q q' buf clock_gate k k' (omega (arith, w, w')) (λ z. clash (cc))
  one_activity p e x y (through_gate q o w t k a) (at_constant o' w') = absurd (omega (arith, w, w'))
  one_activity p e x y (through_gate q o w t k a) (at_port q' o' w' t' k') = apart q q' clock_gate top k (port_kind q' k') (omega (arith, w, w')) (λ z. clash (cc))
  one_activity p e x y (through_gate q o w t k a) (through_inv q' o' w' t' k' a') = apart q q' clock_gate inv k k' (omega (arith, w, w')) (λ z. clash (cc))
  one_activity p e x y (through_gate q o w t k a) (through_buf q' o' w' t' k' a') = apart q q' clock_gate buf k k' (omega (arith, w, w')) (λ z. clash (cc))
  one_activity p e x y (through_gate {x = i} q o w t k a) (through_gate {x = j} q' o' w' t' k' a') =
      let s : q ≡ q' = omega (arith, w, w') in
      ap₂ (λ (g h : Bool). g && h) (one_activity (pin_named n (cell_of n q') #CP) e i j (onward q q' #CP e i s a) a') (ap (λ (r : ℕ). v (pin_named n (cell_of n r) #E)) s)

  -- and so has a cell's clock pin, there or not
  first_activity : (l : List ℕ) (x y : Bool) → ActiveFirst n env v l x → ActiveFirst n env v l y → x ≡ y
  first_activity [] x y a b = a ∙ sym b
  first_activity (p ∷ l) x y a b = one_activity p Rising x y a b

  pub one_clock : (c m : ℕ) (x y : Bool) → ClockActive n env v c m x → ClockActive n env v c m y → x ≡ y
  one_clock c m x y a b = first_activity (named n c m) x y a b
