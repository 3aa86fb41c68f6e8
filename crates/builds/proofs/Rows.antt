-- The rows of the graph that is built: which cell each record is of, its pins and literals, and that each flip-flop and RAM has one.
use mathlib.Core.Path.{◌≡◌, refl, sym, ◌∙◌, ap, subst}
use mathlib.Core.Bool.{true}
use mathlib.Core.List.{List, [], ◌∷◌, ◌++◌}
use Prim.Native.Nat.{ℕ, ◌≤◌, ◌<◌}
use native.Mathlib.Omega.{arith}
use lib.ListN.{length, get_or, length-map}
use borrow.Author.Tests.{ltb-true, ltb-false}
use Rattle.laws.specs.Tests.{◌<?◌}
use Rattle.laws.specs.Lists.{count, over, upto, first_or}
use Rattle.laws.proofs.Tests.{by_test}
use Rattle.laws.proofs.Bags.{at_head, of_append, of_map, first_all}
use Rattle.laws.proofs.Sets.{count-insert-same, insert_le}
use Rattle.laws.proofs.Folds.{behind, count_behind, over_done}
use Rattle.laws.proofs.Ranges.{upto_in, map-upto, map_past}
use Rattle.laws.proofs.Indices.{map_at}
use Rattle.rules.specs.declared.Driver.{Driver}
use Rattle.rules.specs.declared.Driver.TheVariants.{Dff, Ram}
use Rattle.rules.specs.Netlist.{Netlist, cells, size, kind_of, Kind, top, and2, inv, buf, dff, clock_gate, ram, unfit, named, named_bit, #R_ADDR, #R_CLK, #W_ADDR, #W_DATA}
use Rattle.rules.specs.Graph.{pin_of, driver_at, RamRow, no_record, no_ram, dff_at, ram_at}
use Rattle.rules.specs.Build.{clocks_of, Ends, trace_clock, write_end, cell_ends, end_cell, start3, step2, step3, record_of, ram_row_of, graph_of, literals_of}
use Rattle.rules.specs.Refusals.{must_be_logic, ram_literals, Accepted}
use Rattle.rules.proofs.Tables.{clash, cell_fits}
use Rattle.rules.proofs.Roles.{dff_words, dff_output}
use Rattle.builds.proofs.Growing.{old_driver}
use Rattle.builds.proofs.Logics.{out_logic}
use Rattle.builds.proofs.Behind.{Behind}
use Rattle.builds.proofs.Steps.{all_in, all_out, all_in_lem, step2_behind}
use Rattle.builds.proofs.Ends.{base, lits, lit_fits, bit_fits, Holding, with_ram, step3_holds}

-- the cells of the records, in the records' order
abbrev pub dff_cells : Netlist → List ℕ
dff_cells n = (step2 n).flops

abbrev pub ram_cells : Netlist → List ℕ
ram_cells n = (step3 n).rams

module _ (n : Netlist) where
  -- ---- rows by index
  pub lit_is : (p : ℕ) → p < size n → get_or (literals_of n) p 0 ≡ lits n p
  lit_is p h = map-upto (lits n) 0 (size n) p h

  pub dff_count : length (graph_of n).dffs ≡ length (dff_cells n)
  dff_count = length-map (dff_cells n) (record_of (step2 n) (step3 n))

  pub ram_count : length (graph_of n).rams ≡ length (ram_cells n)
  ram_count = length-map (ram_cells n) (ram_row_of n (step2 n) (step3 n))

  pub dff_row : (k : ℕ) → k < length (dff_cells n) → dff_at (graph_of n) k ≡ record_of (step2 n) (step3 n) (get_or (dff_cells n) k 0)
  dff_row k h = map_at (record_of (step2 n) (step3 n)) (dff_cells n) k 0 no_record h

  pub ram_row_lem : (k : ℕ) → k < length (ram_cells n) → ram_at (graph_of n) k ≡ ram_row_of n (step2 n) (step3 n) (get_or (ram_cells n) k 0)
  ram_row_lem k h = map_at (ram_row_of n (step2 n) (step3 n)) (ram_cells n) k 0 no_ram h

  -- the read-data pins of a row, and that there are 32 of them at most
  pub row_data : (k i : ℕ) → k < length (ram_cells n) → i < 32 → get_or (ram_at (graph_of n) k).read_data i 0 ≡ (step2 n).read_pin (get_or (ram_cells n) k 0) i
  row_data k i h hi = ap (λ (r : RamRow). get_or r.read_data i 0) (ram_row_lem k h) ∙ map-upto ((step2 n).read_pin (get_or (ram_cells n) k 0)) 0 32 i hi

  pub row-bit : (k i : ℕ) → k < length (ram_cells n) → 0 < get_or (ram_at (graph_of n) k).read_data i 0 → i < 32
  row-bit k i h m = by_test (i <? 32) (λ y. ltb-true i 32 y)
      (λ f. absurd (omega (arith, m, ap (λ (r : RamRow). get_or r.read_data i 0) (ram_row_lem k h), map_past ((step2 n).read_pin (get_or (ram_cells n) k 0)) 0 32 i (ltb-false i 32 f))))

module _ (n : Netlist) (acc : Accepted n) where
  abbrev ds : List Driver
  ds = (step3 n).drivers

  abbrev behind2 : Behind n (all_in n acc) (all_out n acc) (step2 n)
  behind2 = step2_behind n acc

  abbrev ends : Holding n acc (step3 n)
  ends = step3_holds n acc

  -- ---- drivers of step 2 are there at the end, and no driver with a record is new
  pub longer : length (base n) ≤ length ds
  longer = ends.grows.keeps.longer

  pub later : (u : ℕ) → u < length (base n) → driver_at ds u ≡ driver_at (base n) u
  later u h = ends.grows.keeps.kept u h

  -- ---- flip-flops
  pub dff_cell : (c : ℕ) → 0 < count c (dff_cells n) → (c < cells n) × (kind_of n c ≡ dff)
  dff_cell c m = let a = behind2.flop_only c m in let w = dff_words n a.0 c a.3 in (rw w.2 at (cell_fits n acc.tables a.0 a.1), w.1)

  pub dff_pin : (c : ℕ) → 0 < count c (dff_cells n) → ((step2 n).flop_pin c < length ds) × (driver_at ds ((step2 n).flop_pin c) ≡ Dff c)
  dff_pin c m =
      let a = behind2.flop_only c m in
      let b = behind2.flop_made_lem a.0 c a.2 a.3 in
      (omega (arith, b.1, longer), later ((step2 n).flop_pin c) b.1 ∙ b.2)

  -- a pin with a flip-flop's driver is that cell's pin
  pub dff_of : (u c : ℕ) → driver_at ds u ≡ Dff c → (0 < count c (dff_cells n)) × ((step2 n).flop_pin c ≡ u)
  dff_of u c e = behind2.flop_pins u c (old_driver (base n) ds ends.grows u (Dff c) refl (λ e'. clash (cc)) e)

  -- each flip-flop has one record
  pub dff_once : (c : ℕ) → count c (dff_cells n) ≤ 1
  dff_once c = behind2.flop_once c

  pub dff_has : (c : ℕ) → c < cells n → kind_of n c ≡ dff → count c (dff_cells n) ≡ 1
  dff_has c h e = let a = dff_output n acc.tables c h e in omega (arith, (behind2.flop_made_lem a.0 c (all_in_lem n acc a.0 a.1) a.2).0, dff_once c)

  -- ---- RAMs
  pub ram_pin : (c i : ℕ) → 0 < (step2 n).read_pin c i → ((step2 n).read_pin c i < length ds) × (driver_at ds ((step2 n).read_pin c i) ≡ Ram c) × (0 < count c (ram_cells n))
  ram_pin c i m = let a = behind2.ram_data c i m in
      (omega (arith, a.0, longer), later ((step2 n).read_pin c i) a.0 ∙ a.1, ends.ram_kept c a.2)

  pub ram_of : (u c : ℕ) → driver_at ds u ≡ Ram c → (i : ℕ) × (i < 32) × ((step2 n).read_pin c i ≡ u)
  ram_of u c e = behind2.ram_pins_lem u c (old_driver (base n) ds ends.grows u (Ram c) refl (λ e'. clash (cc)) e)

  pub ram_apart : (c i j : ℕ) → 0 < (step2 n).read_pin c i → (step2 n).read_pin c i ≡ (step2 n).read_pin c j → i ≡ j
  ram_apart c i j m e = behind2.ram_inj c i j m e

  pub ram_cell : (c : ℕ) → 0 < count c (ram_cells n) → (c < cells n) × (kind_of n c ≡ ram)
  ram_cell c m = ends.ram_only c m

  pub ram_once : (c : ℕ) → count c (ram_cells n) ≤ 1
  ram_once c = ends.ram_once c

  -- each RAM has one record: step 3 makes it where step 2 did not
  abbrev Has : List ℕ → Ends → Type 0
  Has done s = (c : ℕ) → 0 < count c done → kind_of n c ≡ ram → 0 < count c s.rams

  trace_rams : (ps : List ℕ) (s : Ends) → (over (trace_clock n (lits n)) s ps).rams ≡ s.rams
  trace_rams [] s = refl
  trace_rams (p ∷ ps) s = trace_rams ps (trace_clock n (lits n) s p)

  write_rams : (c : ℕ) (bs : List ℕ) (s : Ends) → (over (write_end n (lits n) c) s bs).rams ≡ s.rams
  write_rams c [] s = refl
  write_rams c (b ∷ bs) s = write_rams c bs (write_end n (lits n) c s b)

  cell_rams : (s : Ends) (c k : ℕ) (kd : Kind) → 0 < count k s.rams → 0 < count k (cell_ends n (lits n) s c kd).rams
  cell_rams s c k top m = m
  cell_rams s c k (and2 x y z) m = m
  cell_rams s c k inv m = m
  cell_rams s c k buf m = m
  cell_rams s c k dff m = m
  cell_rams s c k clock_gate m = m
  cell_rams s c k ram m = subst (λ (l : List ℕ). 0 < count k l) (sym (write_rams c (upto 32) (with_ram s c))) (omega (arith, m, insert_le s.rams c k))
  cell_rams s c k unfit m = m

  own_ram : (s : Ends) (c : ℕ) (kd : Kind) → kd ≡ ram → 0 < count c (cell_ends n (lits n) s c kd).rams
  own_ram s c kd e = subst (λ (x : Kind). 0 < count c (cell_ends n (lits n) s c x).rams) (sym e)
      (subst (λ (l : List ℕ). 0 < count c l) (sym (write_rams c (upto 32) (with_ram s c))) (count-insert-same s.rams c))

  has_step : (done : List ℕ) (s : Ends) (c : ℕ) → Unit {0} → Has done s → Has (c ∷ done) (end_cell n (lits n) s c)
  has_step done s c u h k m e =
      let t : Ends = over (trace_clock n (lits n)) s (clocks_of n c) in
      at_head k c done m
      (λ ek. rw ek (own_ram t c (kind_of n c) (rw ek at e)))
      (λ m'. cell_rams t c k (kind_of n c) (subst (λ (l : List ℕ). 0 < count k l) (sym (trace_rams (clocks_of n c) s)) (h k m' e)))

  has_all : Has (behind [] (upto (cells n))) (step3 n)
  unfolding step3
  has_all = over_done Has (λ c. Unit {0}) (end_cell n (lits n)) has_step (upto (cells n)) [] (start3 (step2 n)) (λ c m. tt) (λ c m. absurd (omega arith))

  pub ram_has : (c : ℕ) → c < cells n → kind_of n c ≡ ram → count c (ram_cells n) ≡ 1
  ram_has c h e = omega (arith, has_all c (omega (arith, count_behind (upto (cells n)) [] c, upto_in (cells n) c h)) e, ram_once c)

  -- ---- the pins of all literals are there
  pub next_fits : (c : ℕ) → (pin_of ((step3 n).nexts c) < length ds) × (pin_of ((step3 n).enables c) < length ds)
  next_fits c = (ends.next_fits c, ends.enable_fits c)

  some_fits : (c m i : ℕ) → c < cells n → kind_of n c ≡ ram → must_be_logic ram m ≡ true → pin_of (first_or 0 (lits n) (named_bit n c m i)) < length ds
  some_fits c m i h e l = omega (arith, bit_fits n acc c m i 0 ram e h l refl, longer)

  pub ram_fits : (c l : ℕ) → c < cells n → kind_of n c ≡ ram → 0 < count l (ram_literals (ram_row_of n (step2 n) (step3 n) c)) → pin_of l < length ds
  ram_fits c l h e m =
      let row : RamRow = ram_row_of n (step2 n) (step3 n) c in
      at_head l row.read_enable (row.read_address ++ (row.write_address ++ (row.write_enable ++ row.write_data))) m
      (λ el. rw el (first_all (λ x. pin_of x < length ds) 0 (step3 n).active (named n c #R_CLK) ends.sound.start (λ q w. ends.active_fits q)))
      (λ m1. of_append l row.read_address (row.write_address ++ (row.write_enable ++ row.write_data)) m1
      (λ w. of_map (λ x. pin_of x < length ds) (λ i. first_or 0 (lits n) (named_bit n c #R_ADDR i)) (upto 13) (λ i. some_fits c #R_ADDR i h e refl) l w)
      (λ m2. of_append l row.write_address (row.write_enable ++ row.write_data) m2
      (λ w. of_map (λ x. pin_of x < length ds) (λ i. first_or 0 (lits n) (named_bit n c #W_ADDR i)) (upto 13) (λ i. some_fits c #W_ADDR i h e refl) l w)
      (λ m3. of_append l row.write_enable row.write_data m3
      (λ w. of_map (λ x. pin_of x < length ds) ((step3 n).writes c) (upto 32) (λ i. ends.write_fits c i) l w)
      (λ w. of_map (λ x. pin_of x < length ds) (λ i. first_or 0 (lits n) (named_bit n c #W_DATA i)) (upto 32) (λ i. some_fits c #W_DATA i h e refl) l w))))

  pub output_fits : (l : ℕ) → 0 < count l (step2 n).outs → pin_of l < length ds
  output_fits l m = let a = behind2.outs_only l m in
      omega (arith, ap pin_of a.5, lit_fits n acc a.0 a.3 (out_logic n acc a.0 a.1 a.3 a.4), longer)
