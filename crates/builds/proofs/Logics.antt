-- Which pins of an accepted netlist have a logic bit: those that refusal 10 looks at, and so all that the AND step ever reads.
use mathlib.Core.Path.{◌≡◌, refl, sym, subst}
use mathlib.Core.Bool.{Bool, true, false, ◌&&◌, ◌||◌}
use mathlib.Core.List.{[], ◌∷◌}
use Prim.Native.Nat.{ℕ, ◌<◌}
use native.Mathlib.Omega.{arith}
use borrow.Author.Tests.{eqb-true}
use Rattle.std.specs.Prelude.{◌==◌}
use Rattle.laws.specs.Lists.{count, keep}
use Rattle.laws.proofs.Tests.{and_l, or_cases, or_left, or_right}
use Rattle.laws.proofs.Bags.{at_head, count-keep, keep_le, keep_true, keep_sub}
use Rattle.rules.specs.Netlist.{Netlist, cells, size, name_of, bit_of, cell_of, pins_of, kind_of, Kind, and2, dff, clock_gate, named, named_bit, pin_named, #A, #B, #S, #R, #E}
use Rattle.rules.specs.Cells.{Logic}
use Rattle.rules.specs.Build.{Role, tied, wire, out_port, in_port, and_out, inv_out, buf_out, gate_out, dff_out, ram_out, nothing, role, set_reset, visits_of, is_clock, clocks_of}
use Rattle.rules.specs.Refusals.{must_be_logic, Accepted}
use Rattle.rules.proofs.Tables.{cell_fits, own_cell, top_is_zero, and_has_A, and_has_B, gate_has_E}
use Rattle.rules.proofs.Roles.{and_words, gate_words, dff_words, port_words}
use Rattle.rules.proofs.Markers.{made, carried, logic_net, logic_port, logic_buf, logic_inv}

-- the S and R pins are those that a flip-flop's output visits
pub set_in : (n : Netlist) (c q : ℕ) → 0 < count q (named n c #S) → 0 < count q (set_reset n c)
set_in n c q w = keep_sub (λ y. name_of n y == #S) (λ y. (name_of n y == #S) || (name_of n y == #R)) q (pins_of n c) (λ y t. or_left (name_of n y == #S) (name_of n y == #R) t) w

pub reset_in : (n : Netlist) (c q : ℕ) → 0 < count q (named n c #R) → 0 < count q (set_reset n c)
reset_in n c q w = keep_sub (λ y. name_of n y == #R) (λ y. (name_of n y == #S) || (name_of n y == #R)) q (pins_of n c) (λ y t. or_right (name_of n y == #S) (name_of n y == #R) t) w

-- a pin with a clock's name is one of its cell's clock pins
pub clock_in : (n : Netlist) (c m q : ℕ) (k : Kind) → kind_of n c ≡ k → is_clock k m ≡ true → 0 < count q (named n c m) → 0 < count q (clocks_of n c)
clock_in n c m q k e t w = keep_sub (λ y. name_of n y == m) (λ y. is_clock (kind_of n c) (name_of n y)) q (pins_of n c) (λ y t'. rw (e, eqb-true (name_of n y) m t') t) w

module _ (n : Netlist) (acc : Accepted n) where
  logic_in : (f : ℕ → Bool) (c q : ℕ) (k : Kind) → kind_of n c ≡ k → c < cells n → 0 < count q (keep f (pins_of n c))
      → ((p : ℕ) → f p ≡ true → must_be_logic k (name_of n p) ≡ true) → Logic n q
  logic_in f c q k e h m g = acc.no_marker c q h
      (rw (count-keep (λ p. must_be_logic (kind_of n c) (name_of n p)) q (pins_of n c) (rw e (g q (keep_true f q (pins_of n c) m)))) (omega (arith, m, keep_le f q (pins_of n c))))

  pub named_logic : (c m q : ℕ) (k : Kind) → kind_of n c ≡ k → c < cells n → must_be_logic k m ≡ true → 0 < count q (named n c m) → Logic n q
  named_logic c m q k e h l w = logic_in (λ p. name_of n p == m) c q k e h w (λ p t. rw (eqb-true (name_of n p) m t) l)

  pub bit_logic : (c m b q : ℕ) (k : Kind) → kind_of n c ≡ k → c < cells n → must_be_logic k m ≡ true → 0 < count q (named_bit n c m b) → Logic n q
  bit_logic c m b q k e h l w = logic_in (λ p. (name_of n p == m) && (bit_of n p == b)) c q k e h w
      (λ p t. rw (eqb-true (name_of n p) m (and_l (name_of n p == m) (bit_of n p == b) t)) l)

  -- of an AND2, A and B; of a CKLNQD, E; of a flip-flop, D, S and R; and an output port
  pub and_logic : (p a b : ℕ) (x y z : Bool) → p < size n → role n p ≡ and_out x y z a b → Logic n a × Logic n b
  and_logic p a b x y z h e =
      let w = and_words n p a b x y z e in
      let c : ℕ = cell_of n p in
      let hc = cell_fits n acc.tables p h in (
        subst (Logic n) (sym w.2) (named_logic c #A (pin_named n c #A) (and2 x y z) w.1 hc refl (and_has_A n acc.tables c x y z w.1 hc)),
        subst (Logic n) (sym w.3) (named_logic c #B (pin_named n c #B) (and2 x y z) w.1 hc refl (and_has_B n acc.tables c x y z w.1 hc)),
      )

  pub gate_logic : (p cp en : ℕ) → p < size n → role n p ≡ gate_out cp en → Logic n en
  gate_logic p cp en h e =
      let w = gate_words n p cp en e in
      let c : ℕ = cell_of n p in
      let hc = cell_fits n acc.tables p h in
      subst (Logic n) (sym w.3) (named_logic c #E (pin_named n c #E) clock_gate w.1 hc refl (gate_has_E n acc.tables c w.1 hc))

  pub dff_logic : (p c m q : ℕ) → p < size n → role n p ≡ dff_out c → must_be_logic dff m ≡ true → 0 < count q (named n c m) → Logic n q
  dff_logic p c m q h e l w = let d = dff_words n p c e in named_logic c m q dff d.1 (rw d.2 at (cell_fits n acc.tables p h)) l w

  pub out_logic : (p q : ℕ) → p < size n → role n p ≡ out_port q → Logic n p
  out_logic p q h e =
      let ec : cell_of n p ≡ 0 = (port_words n p q e).2 in
      let h0 : 0 < cells n = omega (arith, cell_fits n acc.tables p h) in
      let m : count p (pins_of n 0) ≡ 1 = rw ec at (own_cell n acc.tables p h) in
      acc.no_marker 0 p h0 (rw (count-keep (λ x. must_be_logic (kind_of n 0) (name_of n x)) p (pins_of n 0) (rw (top_is_zero n acc.tables h0))) (omega arith))

  -- what a pin with a logic bit visits has one
  pub visited_logic : (p o : ℕ) (r : Role) → p < size n → Logic n p → role n p ≡ r → 0 < count o (visits_of n r) → Logic n o
  visited_logic p o (tied b) h l e m = absurd (omega arith)
  visited_logic p o (wire q) h l e m = at_head o q [] m (λ z. subst (Logic n) (sym z) (logic_net n p q e l)) (λ w. absurd (omega arith))
  visited_logic p o (out_port q) h l e m = at_head o q [] m (λ z. subst (Logic n) (sym z) (logic_port n p q e l)) (λ w. absurd (omega arith))
  visited_logic p o in_port h l e m = absurd (omega arith)
  visited_logic p o (and_out x y z a b) h l e m = let w = and_logic p a b x y z h e in
      at_head o a (b ∷ []) m (λ q. subst (Logic n) (sym q) w.0) (λ m'. at_head o b [] m' (λ q. subst (Logic n) (sym q) w.1) (λ m''. absurd (omega arith)))
  visited_logic p o (inv_out a) h l e m = at_head o a [] m (λ z. subst (Logic n) (sym z) (logic_inv n p a e l)) (λ w. absurd (omega arith))
  visited_logic p o (buf_out a) h l e m = at_head o a [] m (λ z. subst (Logic n) (sym z) (logic_buf n p a e l)) (λ w. absurd (omega arith))
  visited_logic p o (gate_out cp en) h l e m = absurd (l false (carried n p false (made e)))
  visited_logic p o (dff_out c) h l e m = let d = dff_words n p c e in
      logic_in (λ q. (name_of n q == #S) || (name_of n q == #R)) c o dff d.1 (rw d.2 at (cell_fits n acc.tables p h)) m
      (λ q t. or_cases (name_of n q == #S) (name_of n q == #R) t (λ y. rw (eqb-true (name_of n q) #S y)) (λ y. rw (eqb-true (name_of n q) #R y)))
  visited_logic p o (ram_out c b) h l e m = absurd (omega arith)
  visited_logic p o nothing h l e m = absurd (omega arith)
