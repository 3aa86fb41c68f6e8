-- The cells' rules by the roles of the pins, which is how the graph is built: the same as `CellRules`, for every netlist of accepted tables.
use mathlib.Core.Path.{◌≡◌, refl, sym, ◌∙◌, ap, ap₂}
use mathlib.Core.Logic.{◌↔◌}
use mathlib.Core.Bool.{Bool, true, false, not, ◌&&◌}
use mathlib.Core.List.{[], ◌∷◌}
use Prim.Native.Nat.{ℕ, zero, suc, ◌<◌}
use native.Mathlib.Omega.{arith}
use borrow.Author.Tests.{eqb-true}
use Rattle.std.specs.Prelude.{◌==◌}
use Rattle.laws.specs.Lists.{count}
use Rattle.laws.proofs.Tests.{by_test, true≢false, and_l, and_r}
use Rattle.laws.proofs.Bags.{here, there, keep_true, keep_sub, first_same}
use Rattle.rules.specs.Netlist.{Netlist, size, cell_of, name_of, bit_of, is_out, net_of, net_word, pins_of, kind_of, Kind, top, and2, inv, buf, dff, clock_gate, ram, unfit, named, pin_named, #A, #B, #OUT, #S, #R, #R_DATA}
use Rattle.rules.specs.Cells.{Env, and2_out, flop_out, Logic, bit_named, CellRules}
use Rattle.rules.specs.Build.{Role, tied, wire, out_port, in_port, and_out, inv_out, buf_out, gate_out, dff_out, ram_out, nothing, in_role, out_role, role, visits_of}
use Rattle.rules.specs.Refusals.{tables_number}
use Rattle.rules.proofs.Tables.{clash, cell_fits, own_name, own-bit, only_top, slot_of, out_name, data_name}
use Rattle.rules.proofs.Roles.{out_is, in_is, driven_is, input_is, named_out}
use Rattle.rules.proofs.Markers.{made, carried, logic_by}
use Rattle.builds.proofs.Logics.{set_in, reset_in}

-- the bit of a pin under a role, from the bits of the pins that it visits
abbrev pub rule : Netlist → Env → (ℕ → Bool) → ℕ → Role → Bool
rule n env v p (tied b) = b
rule n env v p (wire q) = v q
rule n env v p (out_port q) = v q
rule n env v p in_port = env.port_bit p
rule n env v p (and_out x y z a b) = and2_out x y z (v a) (v b)
rule n env v p (inv_out a) = not (v a)
rule n env v p (buf_out a) = v a
rule n env v p (gate_out cp e) = false
rule n env v p (dff_out c) = flop_out (env.stored c) (bit_named n v true c #S) (bit_named n v true c #R)
rule n env v p (ram_out c b) = env.read_bit c b
rule n env v p nothing = false

abbrev pub Obeys : Netlist → Env → (ℕ → Bool) → Type 0
Obeys n env v = (p : ℕ) → p < size n → Logic n p → v p ≡ rule n env v p (role n p)

-- the rule reads only the pins visited
pub rule_same : (n : Netlist) (env : Env) (v w : ℕ → Bool) (p : ℕ) (r : Role) → ((o : ℕ) → 0 < count o (visits_of n r) → v o ≡ w o) → rule n env v p r ≡ rule n env w p r
rule_same n env v w p (tied b) h = refl
rule_same n env v w p (wire q) h = h q (here q [])
rule_same n env v w p (out_port q) h = h q (here q [])
rule_same n env v w p in_port h = refl
rule_same n env v w p (and_out x y z a b) h = ap₂ (and2_out x y z) (h a (here a (b ∷ []))) (h b (there b a (b ∷ []) (here b [])))
rule_same n env v w p (inv_out a) h = ap not (h a (here a []))
rule_same n env v w p (buf_out a) h = h a (here a [])
rule_same n env v w p (gate_out cp e) h = refl
rule_same n env v w p (dff_out c) h = ap₂ (flop_out (env.stored c))
    (first_same v w true (named n c #S) (λ q m. h q (set_in n c q m))) (first_same v w true (named n c #R) (λ q m. h q (reset_in n c q m)))
rule_same n env v w p (ram_out c b) h = refl
rule_same n env v w p nothing h = refl

module _ (n : Netlist) (tab : tables_number n ≡ 0) (env : Env) (v : ℕ → Bool) where
  -- ---- from the cells to the roles
  module _ (cr : CellRules n env v) where
    in_rule : (p w : ℕ) → p < size n → Logic n p → is_out n p ≡ false → net_word n (net_of n p) ≡ w → (b : Bool) → v p ≡ rule n env v p (in_role b w)
    in_rule p zero h l f e b = cr.net_0 p h f e
    in_rule p (suc zero) h l f e b = cr.net_1 p h f e
    in_rule p (suc (suc q)) h l f e true = cr.net_driven_bit p q h l f (omega (arith, e))
    in_rule p (suc (suc q)) h l f e false = cr.net_driven_bit p q h l f (omega (arith, e))

    own_out : (p : ℕ) → p < size n → name_of n p ≡ #OUT → 0 < count p (named n (cell_of n p) #OUT)
    own_out p h e = own_name n tab p #OUT h e

    out_rule : (p : ℕ) → p < size n → Logic n p → is_out n p ≡ true → (k : Kind) → kind_of n (cell_of n p) ≡ k → v p ≡ rule n env v p (out_role n (cell_of n p) p k)
    out_rule p h l t top e = cr.in_port_bit p h t (only_top n tab (cell_of n p) (cell_fits n tab p h) e)
    out_rule p h l t (and2 x y z) e = cr.and2_rule (cell_of n p) p x y z (cell_fits n tab p h) e
        (own_out p h (out_name n tab (and2 x y z) (λ q. clash (cc)) p h e (λ w. rw t at w)).0)
    out_rule p h l t inv e = cr.inv_rule (cell_of n p) p (cell_fits n tab p h) e (own_out p h (out_name n tab inv (λ q. clash (cc)) p h e (λ w. rw t at w)).0) l
    out_rule p h l t buf e = cr.buf_rule (cell_of n p) p (cell_fits n tab p h) e (own_out p h (out_name n tab buf (λ q. clash (cc)) p h e (λ w. rw t at w)).0) l
    out_rule p h l t dff e = cr.dff_rule (cell_of n p) p (cell_fits n tab p h) e (own_out p h (out_name n tab dff (λ q. clash (cc)) p h e (λ w. rw t at w)).0)
    out_rule p h l t clock_gate e = absurd (l false (carried n p false (made (out_is n p clock_gate t e))))
    out_rule p h l t ram e = cr.ram_rule (cell_of n p) p (bit_of n p) (cell_fits n tab p h) e (own-bit n tab p #R_DATA (bit_of n p) h (data_name n tab p h t e).0 refl)
    out_rule p h l t unfit e = true≢false false (slot_of n tab unfit (λ q. clash (cc)) p h e) refl

    cells_obey : Obeys n env v
    cells_obey p h l = by_test (is_out n p)
        (λ t. out_rule p h l t (kind_of n (cell_of n p)) refl ∙ ap (rule n env v p) (sym (out_is n p (kind_of n (cell_of n p)) t refl)))
        (λ f. in_rule p (net_word n (net_of n p)) h l f refl (cell_of n p == 0) ∙ ap (rule n env v p) (sym (in_is n p f)))

  -- ---- and back
  module _ (ob : Obeys n env v) where
    by_role : (p : ℕ) (r : Role) → p < size n → Logic n p → role n p ≡ r → v p ≡ rule n env v p r
    by_role p r h l e = ob p h l ∙ ap (rule n env v p) e

    obeys_cells : CellRules n env v
    obeys_cells = record {
      net_0 = λ p h f e. let r : role n p ≡ tied false = in_is n p f ∙ ap (in_role (cell_of n p == 0)) e in by_role p (tied false) h (logic_by n p (tied false) r refl) r;
      net_1 = λ p h f e. let r : role n p ≡ tied true = in_is n p f ∙ ap (in_role (cell_of n p == 0)) e in by_role p (tied true) h (logic_by n p (tied true) r refl) r;
      net_driven_bit = λ p q h l f e. by_test (cell_of n p == 0)
          (λ t. by_role p (out_port q) h l (driven_is n p q true f e t))
          (λ g. by_role p (wire q) h l (driven_is n p q false f e g));
      in_port_bit = λ p h t e. let r = input_is n tab p h t e in by_role p in_port h (logic_by n p in_port r refl) r;
      and2_rule = λ c o x y z h e m.
          let w = named_out n tab c o #OUT (and2 x y z) (λ q. clash (cc)) h e m (λ g nm sl. true≢false false (rw (g, nm) at sl) refl) in
          by_role o (and_out x y z (pin_named n c #A) (pin_named n c #B)) w.0 (logic_by n o (and_out x y z (pin_named n c #A) (pin_named n c #B)) w.2 refl) w.2;
      inv_rule = λ c o h e m l.
          let w = named_out n tab c o #OUT inv (λ q. clash (cc)) h e m (λ g nm sl. true≢false false (rw (g, nm) at sl) refl) in by_role o (inv_out (pin_named n c #A)) w.0 l w.2;
      buf_rule = λ c o h e m l.
          let w = named_out n tab c o #OUT buf (λ q. clash (cc)) h e m (λ g nm sl. true≢false false (rw (g, nm) at sl) refl) in by_role o (buf_out (pin_named n c #A)) w.0 l w.2;
      dff_rule = λ c o h e m.
          let w = named_out n tab c o #OUT dff (λ q. clash (cc)) h e m (λ g nm sl. true≢false false (rw (g, nm) at sl) refl) in
          by_role o (dff_out c) w.0 (logic_by n o (dff_out c) w.2 refl) w.2;
      ram_rule = λ c o i h e m.
          let m' : 0 < count o (named n c #R_DATA) = keep_sub (λ q. (name_of n q == #R_DATA) && (bit_of n q == i)) (λ q. name_of n q == #R_DATA) o (pins_of n c)
          (λ q t. and_l (name_of n q == #R_DATA) (bit_of n q == i) t) m in
          let w = named_out n tab c o #R_DATA ram (λ q. clash (cc)) h e m' (λ g nm sl. true≢false false (rw (g, nm) at sl) refl) in
          let eb : bit_of n o ≡ i = eqb-true (bit_of n o) i (and_r (name_of n o == #R_DATA) (bit_of n o == i)
          (keep_true (λ q. (name_of n q == #R_DATA) && (bit_of n q == i)) o (pins_of n c) m)) in
          by_role o (ram_out c i) w.0 (logic_by n o (ram_out c (bit_of n o)) w.2 refl) (w.2 ∙ ap (ram_out c) eb);
    }

  pub obeys_iff : CellRules n env v ↔ Obeys n env v
  obeys_iff = (cells_obey, obeys_cells)
