-- Demand 2, proved; and with demand 3, from the netlist to the stages.
use Rattle.std.specs.Prelude.{Option, None, Some}
use mathlib.Core.Path.{◌≡◌, refl, sym, ◌∙◌, ap, ap₂, subst}
use mathlib.Core.Logic.{◌⊎◌, inl, inr}
use mathlib.Core.Bool.{Bool, true, false}
use mathlib.Core.List.{[], ◌∷◌, map}
use Prim.Native.Nat.{ℕ, ◌+◌, ◌-◌, ◌<◌}
use native.Mathlib.Omega.{arith}
use lib.ListN.{length, get_or}
use borrow.Author.Tests.{lt-ltb, le-ltb, eq-eqb}
use Rattle.laws.specs.Lists.{count, upto, first_or}
use Rattle.laws.proofs.Indices.{at_in}
use Rattle.laws.proofs.Ranges.{map-upto}
use Rattle.rules.specs.declared.Endpoint.{Endpoint}
use Rattle.rules.specs.declared.Endpoint.TheVariants.{Output, Flop, Memory}
use Rattle.rules.specs.Netlist.{Netlist, size, cell_of, ram, named_bit, #CLK, #R_ADDR, #W_ADDR, #W_DATA}
use Rattle.rules.specs.Cells.{Env, Carried, Logic, CellRules, enable_bit}
use Rattle.rules.specs.Graph.{Graph, driver_of, dff_at, ram_at}
use Rattle.rules.specs.Build.{out_port, role, step2, step3, graph_of}
use Rattle.rules.specs.Stages.{endpoint_of, reads_of}
use Rattle.rules.specs.Work.{bit, lit_bit}
use Rattle.rules.specs.Refusals.{mark, Accepted}
use Rattle.rules.proofs.Roles.{driven_is, port_words, next_closed}
use Rattle.rules.proofs.Accepts.{mark_iff, no_mark_iff}
use Rattle.rules.proofs.Activity.{one_clock}
use Rattle.builds.proofs.Logics.{out_logic, visited_logic}
use Rattle.builds.proofs.Cells.{Obeys, rule_same, obeys_iff}
use Rattle.builds.proofs.Values.{val, val_obeys}
use Rattle.builds.proofs.Steps.{all_left, step2_behind}
use Rattle.builds.proofs.Ends.{lits}
use Rattle.builds.proofs.Records.{flop_right, write_right, read_right, final-right, final_lit}
use Rattle.builds.proofs.Rows.{lit_is, dff_count, ram_count, dff_row, ram_row_lem, row_data, row-bit, dff_cell, dff_pin, dff_has, ram_pin, ram_cell, ram_has}
use Rattle.builds.proofs.Marks.{marker-right, no_marker_else}
use Rattle.demands.specs.Demand2.{Sources, pin_bit, dff_cells, ram_cells, OutputPort, DffRight, RamRight, SameBits, SameRecords, SameMarks, Demand2, values_of, Demands23}
use Rattle.demands.proofs.Sources2.{source, built_checked, given, agrees, reads-right}
use Rattle.demands.proofs.Demand3.{demand3}

module _ (n : Netlist) (acc : Accepted n) where
  abbrev g : Graph
  g = graph_of n

  -- ---- an output port, by its role
  port_role : (p : ℕ) (o : OutputPort n p) → role n p ≡ out_port o.driver
  port_role p o = driven_is n p o.driver true o.inward o.driven (eq-eqb (cell_of n p) 0 o.top)

  port_logic : (p : ℕ) → OutputPort n p → Logic n p
  port_logic p o = out_logic n acc p o.driver o.inside (port_role p o)

  module _ (env : Env) (src : ℕ → Bool) (so : Sources env (graph_of n) src) where
    -- ---- 1
    lit_right : (v : ℕ → Bool) → Obeys n env v → (p : ℕ) → p < size n → Logic n p → pin_bit n src p ≡ v p
    lit_right v ob p h l = ap (lit_bit g src) (lit_is n p h) ∙ final_lit n acc env v (bit g src) ob (reads-right n acc env src so) (agrees n acc env src so) p h l

    -- what the netlist evaluates to obeys, so the graph's bits, which are the same, obey
    own_obeys : Obeys n env (pin_bit n src)
    own_obeys p h l = lit_right (val n env) (val_obeys n acc env) p h l ∙ val_obeys n acc env p h l
        ∙ rule_same n env (val n env) (pin_bit n src) p (role n p)
        (λ o m. sym (lit_right (val n env) (val_obeys n acc env) o (next_closed n acc.tables p o h m) (visited_logic n acc p o (role n p) h l refl m)))

    same_bits : SameBits n env src
    same_bits = record {
      same = λ v cr p h l. sym (lit_right v ((obeys_iff n acc.tables env v).0 cr) p h l);
      own = (obeys_iff n acc.tables env (pin_bit n src)).1 own_obeys;
    }

    -- ---- 2
    module _ (v : ℕ → Bool) (cr : CellRules n env v) where
      ob : Obeys n env v
      ob = (obeys_iff n acc.tables env v).0 cr

      dff_right : (k : ℕ) → k < length (dff_cells n) → DffRight n env v (lit_bit (graph_of n) src) (get_or (dff_cells n) k 0) (dff_at (graph_of n) k)
      dff_right k h =
          let c : ℕ = get_or (dff_cells n) k 0 in
          let w = dff_cell n acc c (at_in (dff_cells n) k h) in
          let r = flop_right n acc env v (bit g src) ob (reads-right n acc env src so) (agrees n acc env src so) c w.0 w.1 in
          subst (DffRight n env v (lit_bit g src) c) (sym (dff_row n k h)) (record { next_right = r.0; activity = r.1.0; clock_active = r.1.1; enable_right = r.1.2 })

      -- a row's addresses and data
      entry : (c m k i : ℕ) → i < k → lit_bit g src (first_or 0 (lits n) (named_bit n c m i)) ≡ first_or false v (named_bit n c m i)
          → lit_bit g src (get_or (map (λ j. first_or 0 (lits n) (named_bit n c m j)) (upto k)) i 0) ≡ first_or false v (named_bit n c m i)
      entry c m k i h e = ap (lit_bit g src) (map-upto (λ j. first_or 0 (lits n) (named_bit n c m j)) 0 k i h) ∙ e

      ram_right : (k : ℕ) → k < length (ram_cells n) → RamRight n env v (lit_bit (graph_of n) src) (get_or (ram_cells n) k 0) (ram_at (graph_of n) k)
      ram_right k h =
          let c : ℕ = get_or (ram_cells n) k 0 in
          let w = ram_cell n acc c (at_in (ram_cells n) k h) in
          let rd = reads-right n acc env src so in
          let ag = agrees n acc env src so in
          let rr = read_right n acc env v (bit g src) ob rd ag c w.0 w.1 in
          let wr = write_right n acc env v (bit g src) ob rd ag c w.0 w.1 in
          subst (RamRight n env v (lit_bit g src) c) (sym (ram_row_lem n k h)) (record {
            read_activity = rr.0;
            read_clock = rr.1;
            read_enable_right = rr.2;
            write_activity = wr.0;
            write_clock = wr.1;
            write_enable_right = λ i hi. ap (lit_bit g src) (map-upto ((step3 n).writes c) 0 32 i hi) ∙ wr.2 i hi;
            read_address_right = λ i hi. entry c #R_ADDR 13 i hi (final-right n acc env v (bit g src) ob rd ag c #R_ADDR i ram w.1 w.0 refl);
            write_address_right = λ i hi. entry c #W_ADDR 13 i hi (final-right n acc env v (bit g src) ob rd ag c #W_ADDR i ram w.1 w.0 refl);
            write_data_right = λ i hi. entry c #W_DATA 32 i hi (final-right n acc env v (bit g src) ob rd ag c #W_DATA i ram w.1 w.0 refl);
          })

    same_records : SameRecords n env src
    same_records = record {
      dff_rows = dff_count n;
      dff_one = dff_has n acc;
      dff_only = dff_cell n acc;
      dff_driver = λ k h. ap (λ r. driver_of g r.pin) (dff_row n k h) ∙ (dff_pin n acc (get_or (dff_cells n) k 0) (at_in (dff_cells n) k h)).1;
      dff_right = dff_right;
      ram_rows = ram_count n;
      ram_one = ram_has n acc;
      ram_only = ram_cell n acc;
      ram_driver = λ k i h m.
          let e : get_or (ram_at g k).read_data i 0 ≡ (step2 n).read_pin (get_or (ram_cells n) k 0) i = row_data n k i h (row-bit n k i h m) in
          ap (driver_of g) e ∙ (ram_pin n acc (get_or (ram_cells n) k 0) i (omega (arith, m, e))).1;
      ram_right = ram_right;
    }

  -- ---- 3
  mark_or_not : (p : ℕ) → p < size n → (m : Option Bool) → mark n p ≡ m → Logic n p ⊎ ((odd : Bool) × Carried n p odd)
  mark_or_not p h None e = inl ((no_mark_iff n acc.tables acc.no_loop p h).0 e)
  mark_or_not p h (Some odd) e = inr (odd, (mark_iff n acc.tables acc.no_loop p odd h).0 e)

  same_marks : SameMarks n
  same_marks = record {
    either = λ p h. mark_or_not p h (mark n p) refl;
    marked = marker-right n acc;
    unmarked = λ b p h l. no_marker_else n acc (omega (arith, b)) p h l;
    outputs_all = λ p o. subst (λ (l : ℕ). 0 < count l g.outputs) (sym (lit_is n p o.inside))
        ((step2_behind n acc).outs_all p o.driver (all_left n acc p o.inside) (port_role p o));
    outputs_only = λ l m.
        let a = (step2_behind n acc).outs_only l m in
        let w = port_words n a.0 a.1 a.4 in
        (a.0, record { inside = a.3; top = w.2; inward = w.0; driver = a.1; driven = w.1 }, lit_is n a.0 a.3 ∙ a.5);
    outputs_once = (step2_behind n acc).outs_once;
  }

pub demand2 : Demand2
demand2 n acc env = record { given = (source env (graph_of n), given n acc env); bits = same_bits n acc env; records = same_records n acc env; marks = same_marks n acc }

-- ---- with the stages
module _ (n : Netlist) where
  abbrev g' : Graph
  g' = graph_of n

  abbrev o : ℕ
  o = length g'.outputs

  abbrev d : ℕ
  d = length g'.dffs

  -- which endpoint a number is
  output_is : (e : ℕ) → e < o → endpoint_of g' e ≡ Output e
  output_is e h = rw (lt-ltb e o h)

  flop_is : (k : ℕ) → k < d → endpoint_of g' (o + k) ≡ Flop k
  flop_is k h = let z : o + k - o ≡ k = omega arith in rw (le-ltb (o + k) o (omega arith), lt-ltb (o + k) (o + d) (omega arith), z)

  memory_is : (k : ℕ) → endpoint_of g' (o + d + k) ≡ Memory k
  memory_is k = let z : o + d + k - o - d ≡ k = omega arith in rw (le-ltb (o + d + k) o (omega arith), le-ltb (o + d + k) (o + d) (omega arith), z)

  values_by : (src : ℕ → Bool) (e : ℕ) (x : Endpoint) → endpoint_of g' e ≡ x → values_of g' src e ≡ map (λ l. Some (lit_bit g' src l)) (reads_of g' x)
  values_by src e x q = ap (λ (y : Endpoint). map (λ l. Some (lit_bit g' src l)) (reads_of g' y)) q

pub demands23 : Demands23
demands23 n acc splits rises something env v src cr so = record {
  legal = demand3 (graph_of n) splits (built_checked n acc) something rises;
  outputs = λ e p h op q. values_by n src e (Output e) (output_is n e h)
      ∙ ap (λ (b : Bool). Some b ∷ []) (ap (lit_bit (graph_of n) src) (sym q) ∙ sym ((same_bits n acc env src so).same v cr p op.inside (port_logic n acc p op)));
  dffs = λ k a h ca.
      let r = dff_right n acc env src so v cr k h in
      let ea : r.activity ≡ a = one_clock n acc.tables env v (get_or (dff_cells n) k 0) #CLK r.activity a r.clock_active ca in
      values_by n src (length (graph_of n).outputs + k) (Flop k) (flop_is n k (omega (arith, dff_count n)))
      ∙ ap₂ (λ (x y : Bool). Some x ∷ Some y ∷ []) (r.enable_right ∙ ap (enable_bit n v (get_or (dff_cells n) k 0)) ea) r.next_right;
  rams = λ k h. (values_by n src (length (graph_of n).outputs + length (graph_of n).dffs + k) (Memory k) (memory_is n k), ram_right n acc env src so v cr k h);
}
