-- Refusal 12 gives what the stages need: of the driver table alone, and of a whole graph.
use Rattle.rules.specs.declared.Driver.{Driver}
use mathlib.Core.Path.{◌≡◌, refl, sym, ◌∙◌}
use mathlib.Core.Bool.{Bool, true, false, ◌&&◌}
use mathlib.Core.List.{List, [], ◌∷◌, ◌++◌}
use Prim.Native.Nat.{ℕ, zero, suc, ◌+◌, ◌-◌, ◌*◌, ◌≤◌, ◌<◌}
use native.Mathlib.Omega.{arith}
use lib.ListN.{length, get_or, get_or-eq_default}
use borrow.Author.Tests.{ltb-true, ltb-false, leb-true, eqb-true}
use Rattle.std.specs.Prelude.{None, Option, Some, if◌then◌else◌, ◌==◌}
use Rattle.laws.specs.Tests.{◌<?◌, ◌≤?◌}
use Rattle.laws.specs.Lists.{count, every, flat}
use Rattle.laws.proofs.Tests.{by_test, true≢false, and_l, and_r, if_elim, not_refused, last_refused}
use Rattle.laws.proofs.Bags.{count-append, in_left, in_right, at_head, every_true}
use Rattle.laws.proofs.Indices.{at_in}
use Rattle.laws.proofs.Ranges.{of_upto, map-upto, map_past, length-map-upto}
use Rattle.rules.specs.declared.Driver.TheVariants.{And, Port, Flag, Dff, Ram, Constant}
use Rattle.rules.specs.declared.Endpoint.{Endpoint}
use Rattle.rules.specs.declared.Endpoint.TheVariants.{Output, Flop, Memory}
use Rattle.rules.specs.declared.GraphCounts.{GraphCounts}
use Rattle.rules.specs.declared.Record.{Record}
use Rattle.rules.specs.Graph.{pin_of, gate, Graph, RamRow, driver_at, pin_count, ram_at, no_record, no_ram}
use Rattle.rules.specs.Bounds.{graph_within, stage_work}
use Rattle.rules.specs.Stages.{endpoint_count, in_turn, reads, reads_of, ram_reads}
use Rattle.rules.specs.Tables.{decode_at, driver_or, drivers_in, record_in, ram_in, graph_in, GraphWords}
use Rattle.rules.specs.Refusals.{operand_fits, driver_fits, drivers_fit, one_for_one, is_dff, is_ram, dff_pins, ram_pins, ram_literals, literals_in, records_fit}
use Rattle.rules.specs.Answers.{graph_number, graph_fits, graph_long, endpoints, drivers_graph}
use Rattle.cuts.specs.Checked.{Checked}

-- ---- the drivers
operand_at : (u l : ℕ) → operand_fits u l ≡ true → (0 < pin_of l) × (pin_of l < u)
operand_at u l e = (leb-true 1 (pin_of l) (and_l (1 ≤? pin_of l) (pin_of l <? u) e), ltb-true (pin_of l) u (and_r (1 ≤? pin_of l) (pin_of l <? u) e))

gate-operands : (u a b : ℕ) → (operand_fits u a && operand_fits u b && (a ≤? b)) ≡ true
    → (0 < pin_of a) × (pin_of a < u) × (0 < pin_of b) × (pin_of b < u)
gate-operands u a b e =
    let both : (operand_fits u a && operand_fits u b) ≡ true = and_l (operand_fits u a && operand_fits u b) (a ≤? b) e in
    let wa = operand_at u a (and_l (operand_fits u a) (operand_fits u b) both) in
    let wb = operand_at u b (and_r (operand_fits u a) (operand_fits u b) both) in
    (wa.0, wa.1, wb.0, wb.1)

module _ (ws : List ℕ) (pins : ℕ) (fit : drivers_fit ws pins ≡ true) where
  fits_at : (u : ℕ) → u < pins + 1 → driver_fits u (decode_at ws u) ≡ true
  fits_at u h = of_upto (λ v. driver_fits v (decode_at ws v)) (pins + 1) u fit h

  at_zero : (x : Option Driver) → driver_fits 0 x ≡ true → driver_or x ≡ Constant
  at_zero (Some (And a b)) e = absurd (omega (arith, (gate-operands 0 a.word b.word e).1))
  at_zero (Some (Port q)) e = true≢false false e refl
  at_zero (Some (Flag q f)) e = true≢false false e refl
  at_zero (Some (Dff c)) e = true≢false false e refl
  at_zero (Some (Ram c)) e = true≢false false e refl
  at_zero (Some Constant) e = refl
  at_zero None e = true≢false false e refl

  pub zero_is_constant : driver_at (drivers_in ws pins) 0 ≡ Constant
  zero_is_constant = map-upto (λ u. driver_or (decode_at ws u)) Constant (pins + 1) 0 (omega arith) ∙ at_zero (decode_at ws 0) (fits_at 0 (omega arith))

  gate_at : (u a b : ℕ) (x : Option Driver) → driver_fits u x ≡ true → driver_or x ≡ gate a b
      → (0 < pin_of a) × (pin_of a < u) × (0 < pin_of b) × (pin_of b < u)
  gate_at u a b (Some (And a' b')) f e =
      let ea : a'.word ≡ a = cc in
      let eb : b'.word ≡ b = cc in
      rw (← ea, ← eb) (gate-operands u a'.word b'.word f)
  gate_at u a b (Some (Port q)) f e = let z : ◌≡◌ {A = ℕ} 0 1 = cc in absurd (omega arith)
  gate_at u a b (Some (Flag q d)) f e = let z : ◌≡◌ {A = ℕ} 0 1 = cc in absurd (omega arith)
  gate_at u a b (Some (Dff c)) f e = let z : ◌≡◌ {A = ℕ} 0 1 = cc in absurd (omega arith)
  gate_at u a b (Some (Ram c)) f e = let z : ◌≡◌ {A = ℕ} 0 1 = cc in absurd (omega arith)
  gate_at u a b (Some Constant) f e = let z : ◌≡◌ {A = ℕ} 0 1 = cc in absurd (omega arith)
  gate_at u a b None f e = let z : ◌≡◌ {A = ℕ} 0 1 = cc in absurd (omega arith)

  pub gates_fit : (u a b : ℕ) → driver_at (drivers_in ws pins) u ≡ gate a b → (0 < pin_of a) × (pin_of a < u) × (0 < pin_of b) × (pin_of b < u)
  gates_fit u a b e = by_test (u <? pins + 1)
      (λ t. gate_at u a b (decode_at ws u) (fits_at u (ltb-true u (pins + 1) t))
      (sym (map-upto (λ v. driver_or (decode_at ws v)) Constant (pins + 1) u (ltb-true u (pins + 1) t)) ∙ e))
      (λ f. let past : driver_at (drivers_in ws pins) u ≡ Constant = map_past (λ v. driver_or (decode_at ws v)) Constant (pins + 1) u (ltb-false u (pins + 1) f) in
      let z : ◌≡◌ {A = ℕ} 0 1 = cc in absurd (omega arith))

-- ---- the records: each literal that an endpoint reads is among those tested, or stands for a row that is not there
of_entry : {A : Type 0} (P : ℕ → Type 0) (f : A → List ℕ) (l : List A) (k : ℕ) (d : A)
    → ((x : ℕ) → 0 < count x (flat f l) → P x) → ((x : ℕ) → 0 < count x (f d) → P x) → (x : ℕ) → 0 < count x (f (get_or l k d)) → P x
of_entry P f [] k d all none x m = none x m
of_entry P f (y ∷ l) zero d all none x m = all x (in_left x (f y) (flat f l) m)
of_entry P f (y ∷ l) (suc k) d all none x m = of_entry P f l k d (λ z mz. all z (in_right z (f y) (flat f l) mz)) none x m

in_turn_lem : (x : ℕ) (xs ys : List ℕ) → count x (in_turn xs ys) ≡ count x xs + count x ys
in_turn_lem x [] ys = omega arith
in_turn_lem x (a ∷ xs) [] = omega arith
in_turn_lem x (a ∷ xs) (b ∷ ys) = omega (arith, in_turn_lem x xs ys)

ram_reads_lem : (r : RamRow) (x : ℕ) → count x (ram_reads r) ≡ count x (ram_literals r)
ram_reads_lem r x = omega (
  arith,
  count-append x (in_turn r.read_address r.write_address) (in_turn r.write_enable r.write_data),
  in_turn_lem x r.read_address r.write_address,
  in_turn_lem x r.write_enable r.write_data,
  count-append x r.read_address (r.write_address ++ (r.write_enable ++ r.write_data)),
  count-append x r.write_address (r.write_enable ++ r.write_data),
  count-append x r.write_enable r.write_data,
)

-- the third of four tests
third : (a b c d : Bool) → (a && b && c && d) ≡ true → c ≡ true
third a b c d h = and_r (a && b) c (and_l (a && b && c) d h)

literals_fit : (g : Graph) → records_fit g ≡ true → (l : ℕ) → 0 < count l (literals_in g) → pin_of l ≤ pin_count g
literals_fit g fit l m = leb-true (pin_of l) (pin_count g) (every_true within l (literals_in g)
    (third (one_for_one is_dff (dff_pins g) g) (one_for_one is_ram (ram_pins g) g) (every within (literals_in g))
    (every (λ x. count x g.outputs == 1) g.outputs) fit) m)
  where
    within : ℕ → Bool
    within x = pin_of x ≤? pin_count g

module _ (g : Graph) (inside : (l : ℕ) → 0 < count l (literals_in g) → pin_of l ≤ pin_count g) where
  abbrev In : ℕ → Type 0
  In l = pin_of l ≤ pin_count g

  abbrev dff_literals : Record → List ℕ
  dff_literals r = r.next ∷ r.enable ∷ []

  no_literal : (l : ℕ) → l ≡ 0 → In l
  no_literal l e = rw e (omega arith)

  output_fits : (k l : ℕ) → 0 < count l (reads_of g (Output k)) → In l
  output_fits k l m = by_test (k <? length g.outputs)
      (λ t. inside l (in_left l g.outputs _ (at_head l (get_or g.outputs k 0) [] m
      (λ e. rw e (at_in g.outputs k (ltb-true k (length g.outputs) t))) (λ z. absurd (omega arith)))))
      (λ f. no_literal l (at_head l (get_or g.outputs k 0) [] m
      (λ e. e ∙ get_or-eq_default g.outputs 0 (ltb-false k (length g.outputs) f)) (λ z. absurd (omega arith))))

  flop_fits : (k l : ℕ) → 0 < count l (reads_of g (Flop k)) → In l
  flop_fits k l m = of_entry In dff_literals g.dffs k no_record
      (λ x mx. inside x (in_right x g.outputs _ (in_left x (flat dff_literals g.dffs) (flat ram_literals g.rams) mx)))
      (λ x mx. at_head x 0 (0 ∷ []) mx (no_literal x) (λ my. at_head x 0 [] my (no_literal x) (λ z. absurd (omega arith)))) l (omega (arith, m))

  memory_fits : (k l : ℕ) → 0 < count l (reads_of g (Memory k)) → In l
  memory_fits k l m = of_entry In ram_literals g.rams k no_ram
      (λ x mx. inside x (in_right x g.outputs _ (in_right x (flat dff_literals g.dffs) (flat ram_literals g.rams) mx)))
      (λ x mx. at_head x 0 [] mx (no_literal x) (λ z. absurd (omega arith))) l (omega (arith, m, ram_reads_lem (ram_at g k) l))

  pub records_fit_lem : (e l : ℕ) → 0 < count l (reads g e) → In l
  records_fit_lem e l = if_elim (e <? o) (Output e) (if e <? o + n then Flop (e - o) else Memory (e - o - n)) Fits
      (λ t. output_fits e l)
      (λ f. if_elim (e <? o + n) (Flop (e - o)) (Memory (e - o - n)) Fits (λ t. flop_fits (e - o) l) (λ f'. memory_fits (e - o - n) l))
    where
      o : ℕ
      o = length g.outputs

      n : ℕ
      n = length g.dffs

      Fits : Endpoint → Type 0
      Fits x = 0 < count l (reads_of g x) → In l

-- ---- the two kinds of graph that a call is given
pub drivers_checked : (ws : List ℕ) (pins : ℕ) → drivers_fit ws pins ≡ true → Checked (drivers_graph pins ws)
drivers_checked ws pins fit = record {
  zero_constant = zero_is_constant ws pins fit;
  operands_fit = gates_fit ws pins fit;
  reads_fit = records_fit_lem (drivers_graph pins ws) (λ l m. absurd (omega arith));
}

pub graph_checked : (c : GraphCounts) (t : GraphWords) → graph_fits c t ≡ true → Checked (graph_in c t)
graph_checked c t fit = record {
  zero_constant = zero_is_constant t.drivers c.pins drivers;
  operands_fit = gates_fit t.drivers c.pins drivers;
  reads_fit = records_fit_lem (graph_in c t) (literals_fit (graph_in c t) (and_r (drivers_fit t.drivers c.pins) (records_fit (graph_in c t)) fit));
}
  where
    drivers : drivers_fit t.drivers c.pins ≡ true
    drivers = and_l (drivers_fit t.drivers c.pins) (records_fit (graph_in c t)) fit

-- ---- what is not refused passes each test
pub number_checked : (c : GraphCounts) (t : GraphWords) (work : ℕ) (counts lengths : Bool) → graph_number c t work counts lengths ≡ 0
    → (Checked (graph_in c t)) × ((graph_within c && counts) ≡ true) × ((graph_long c t && (stage_work c.pins (endpoints c) ≤? work) && lengths) ≡ true)
number_checked c t work counts lengths z =
    let w = not_refused 0 (graph_within c && counts) _ z in
    let v = not_refused 1 (graph_long c t && (stage_work c.pins (endpoints c) ≤? work) && lengths) _ w.1 in
    (graph_checked c t (last_refused 11 (graph_fits c t) v.1), w.0, v.0)

-- of tests in a row, the second
pub second : (a b c d : Bool) → (a && b && c && d) ≡ true → b ≡ true
second a b c d h = and_r a b (and_l (a && b) c (and_l (a && b && c) d h))

-- a table's length is its count, so the endpoints of the call are those of the graph
pub endpoints_are : (c : GraphCounts) (t : GraphWords) → graph_long c t ≡ true → endpoint_count (graph_in c t) ≡ endpoints c
endpoints_are c t long = omega (
  arith,
  eqb-true (length t.outputs) c.outputs
      (second (length t.drivers == 3 * (c.pins + 1)) (length t.outputs == c.outputs)
      (length t.dffs == 3 * c.dffs) (length t.rams == 123 * c.rams) long),
  length-map-upto (record_in t.dffs) c.dffs,
  length-map-upto (ram_in t.rams) c.rams,
)
