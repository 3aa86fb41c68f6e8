-- The graph that is built passes refusal 12, as it is and as it lies in words.
use mathlib.Core.Path.{◌≡◌, refl, sym, ◌∙◌, ap, subst}
use mathlib.Core.Bool.{true}
use mathlib.Core.List.{List, [], ◌∷◌, ◌++◌, map}
use Prim.Native.Nat.{ℕ, zero, suc, ◌+◌, ◌-◌, ◌*◌, ◌≤◌, ◌<◌}
use native.Mathlib.Omega.{arith}
use lib.ListN.{length, get_or}
use borrow.Author.Tests.{lt-ltb, le-leb, eq-eqb, eqb-true, eqb-false}
use Rattle.std.specs.Prelude.{Some, ◌==◌}
use Rattle.laws.specs.Tests.{◌<?◌, ◌≤?◌, one}
use Rattle.laws.specs.Lists.{count, member, keep, every, flat, upto, first_or}
use Rattle.laws.proofs.Tests.{by_test, both_true, one_eq, one_ne}
use Rattle.laws.proofs.Bags.{member_true, member_false, count-append, of_append, at_head, here, there, count-keep, count-drop, keep_le, every_all, of_flat, from_map}
use Rattle.laws.proofs.Ranges.{length-map-upto, every_upto, upto_in}
use Rattle.rules.specs.declared.Driver.{Driver}
use Rattle.rules.specs.declared.Driver.TheVariants.{And, Port, Flag, Dff, Ram, Constant}
use Rattle.rules.specs.declared.Record.{Record}
use Rattle.rules.specs.Netlist.{Netlist, named_bit, #R_ADDR, #W_ADDR, #W_DATA}
use Rattle.rules.specs.Graph.{pin_of, driver_at, driver_of, RamRow, Graph, pin_count, no_ram}
use Rattle.rules.specs.Build.{step2, step3, record_of, ram_row_of, graph_of}
use Rattle.rules.specs.Refusals.{driver_fits, drivers_fit, is_dff, is_ram, dff_pins, ram_pins, one_for_one, ram_literals, literals_in, records_fit, Accepted}
use Rattle.rules.specs.Tables.{driver_words, decode_at, graph_in}
use Rattle.rules.specs.Tables.{counts_of, words_of}
use Rattle.rules.specs.Bounds.{stage_work, graph_within}
use Rattle.rules.specs.Answers.{graph_long, graph_fits, endpoints, check_graph_number}
use Rattle.rules.proofs.Tables.{clash}
use Rattle.builds.proofs.Sound.{Sound, driver_above}
use Rattle.builds.proofs.Steps.{step2_behind}
use Rattle.builds.proofs.Ends.{step3_holds}
use Rattle.builds.proofs.Rows.{dff_cells, ram_cells, ram_count, ram_row_lem, dff_pin, dff_of, dff_once, ram_pin, ram_of, ram_apart, ram_cell, ram_once, next_fits, ram_fits, output_fits}
use Rattle.builds.proofs.Words.{driver_words_lem, words_say, record_words_lem, ram_words_lem, Shaped, graph_back}

-- ---- lists: how often a number stands in mapped and joined lists
-- where f takes one member alone to u
map-once : (f : ℕ → ℕ) (l : List ℕ) (u c : ℕ) → f c ≡ u → ((x : ℕ) → 0 < count x l → f x ≡ u → x ≡ c) → count u (map f l) ≡ count c l
map-once f [] u c e h = refl
map-once f (x ∷ l) u c e h = by_test (c == x)
    (λ t. let q = eqb-true c x t in omega (arith, one_eq c x q, one_eq u (f x) (sym e ∙ ap f q), map-once f l u c e (λ y m. h y (there y x l m))))
    (λ g. let q = eqb-false c x g in
    omega (arith, one_ne c x q, one_ne u (f x) (λ w. q (sym (h x (here x l) (sym w)))), map-once f l u c e (λ y m. h y (there y x l m))))

map-none : (f : ℕ → ℕ) (l : List ℕ) (u : ℕ) → ((x : ℕ) → 0 < count x l → f x ≡ u → ⊥) → count u (map f l) ≡ 0
map-none f [] u h = refl
map-none f (x ∷ l) u h = omega (arith, one_ne u (f x) (λ w. h x (here x l) (sym w)), map-none f l u (λ y m. h y (there y x l m)))

-- where u stands in the list of one member alone, and once there
flat-once : (f : ℕ → List ℕ) (l : List ℕ) (u c : ℕ) → count u (f c) ≡ 1 → ((x : ℕ) → 0 < count x l → (x ≡ c → ⊥) → count u (f x) ≡ 0) → count u (flat f l) ≡ count c l
flat-once f [] u c e h = refl
flat-once f (x ∷ l) u c e h = by_test (c == x)
    (λ t. let q = eqb-true c x t in
    omega (arith, one_eq c x q, count-append u (f x) (flat f l), ap (λ (y : ℕ). count u (f y)) q, e, flat-once f l u c e (λ y m. h y (there y x l m))))
    (λ g. let q = eqb-false c x g in
    omega (arith, one_ne c x q, count-append u (f x) (flat f l), h x (here x l) (λ w. q (sym w)), flat-once f l u c e (λ y m. h y (there y x l m))))

flat-none : (f : ℕ → List ℕ) (l : List ℕ) (u : ℕ) → ((x : ℕ) → 0 < count x l → count u (f x) ≡ 0) → count u (flat f l) ≡ 0
flat-none f [] u h = refl
flat-none f (x ∷ l) u h = omega (arith, count-append u (f x) (flat f l), h x (here x l), flat-none f l u (λ y m. h y (there y x l m)))

map-map : {A : Type 0} (g : A → ℕ) (f : ℕ → A) (l : List ℕ) → map g (map f l) ≡ map (λ x. g (f x)) l
map-map g f [] = refl
map-map g f (x ∷ l) = ap (λ r. g (f x) ∷ r) (map-map g f l)

flat_map : {A : Type 0} (g : A → List ℕ) (f : ℕ → A) (l : List ℕ) → flat g (map f l) ≡ flat (λ x. g (f x)) l
flat_map g f [] = refl
flat_map g f (x ∷ l) = ap (λ r. g (f x) ++ r) (flat_map g f l)

of_rows : {P : Type 0} {A : Type 0} (g : A → List ℕ) (f : ℕ → A) (y : ℕ) (l : List ℕ) → 0 < count y (flat g (map f l)) → ((x : ℕ) → 0 < count x l → 0 < count y (g (f x)) → P) → P
of_rows g f y [] m k = absurd (omega arith)
of_rows g f y (x ∷ l) m k = of_append y (g (f x)) (flat g (map f l)) m (λ w. k x (here x l) w) (λ w. of_rows g f y l w (λ z mz e. k z (there z x l mz) e))

-- ---- drivers of a sound table
module _ (ds : List Driver) (s : Sound ds) where
  driver_fits_lem : (u : ℕ) → u < length ds → (d : Driver) → driver_at ds u ≡ d → driver_fits u (Some d) ≡ true
  driver_fits_lem u h (And a b) e =
      let w = s.gates u a.word b.word e in
      rw (le-leb 1 (pin_of a.word) w.0, lt-ltb (pin_of a.word) u w.1, le-leb 1 (pin_of b.word) w.2, lt-ltb (pin_of b.word) u w.3, le-leb a.word b.word w.4)
  driver_fits_lem u h (Port q) e = lt-ltb 0 u (driver_above ds s u (Port q) e (λ e'. clash (cc)))
  driver_fits_lem u h (Flag q d) e = lt-ltb 0 u (driver_above ds s u (Flag q d) e (λ e'. clash (cc)))
  driver_fits_lem u h (Dff c) e = lt-ltb 0 u (driver_above ds s u (Dff c) e (λ e'. clash (cc)))
  driver_fits_lem u h (Ram c) e = lt-ltb 0 u (driver_above ds s u (Ram c) e (λ e'. clash (cc)))
  driver_fits_lem u h Constant e = by_test (u == 0) (λ t. t) (λ f. absurd (s.rest u (omega (arith, eqb-false u 0 f)) h e))

  pub drivers_fit_lem : drivers_fit (flat driver_words ds) (length ds - 1) ≡ true
  drivers_fit_lem = every_upto (λ u. driver_fits u (decode_at (flat driver_words ds) u)) (length ds - 1 + 1)
      (λ u h. let l : u < length ds = omega (arith, s.start) in ap (driver_fits u) (words_say ds u l) ∙ driver_fits_lem u l (driver_at ds u) refl)

-- ---- the graph that is built
module _ (n : Netlist) (acc : Accepted n) where
  abbrev g : Graph
  g = graph_of n

  abbrev ds : List Driver
  ds = (step3 n).drivers

  pub built_sound : Sound (graph_of n).drivers
  built_sound = (step3_holds n acc).sound

  below : (p : ℕ) → p < length ds → (p ≤? pin_count g) ≡ true
  below p h = le-leb p (pin_count g) (omega arith)

  -- the flip-flops' pins
  dff_pins_lem : dff_pins g ≡ map (step2 n).flop_pin (dff_cells n)
  dff_pins_lem = map-map (λ (r : Record). r.pin) (record_of (step2 n) (step3 n)) (dff_cells n)

  dff_here : (u : ℕ) (d : Driver) → driver_at ds u ≡ d → count u (map (step2 n).flop_pin (dff_cells n)) ≡ one (is_dff d)
  dff_here u (Dff c) e = let a = dff_of n acc u c e in
      map-once (step2 n).flop_pin (dff_cells n) u c a.1 (λ x m q. let w : Dff x ≡ Dff c = sym (dff_pin n acc x m).1 ∙ ap (driver_at ds) q ∙ e in cc)
      ∙ omega (arith, a.0, dff_once n acc c)
  dff_here u (And a b) e = map-none (step2 n).flop_pin (dff_cells n) u (λ x m q. let w : Dff x ≡ And a b = sym (dff_pin n acc x m).1 ∙ ap (driver_at ds) q ∙ e in clash (cc))
  dff_here u (Port p) e = map-none (step2 n).flop_pin (dff_cells n) u (λ x m q. let w : Dff x ≡ Port p = sym (dff_pin n acc x m).1 ∙ ap (driver_at ds) q ∙ e in clash (cc))
  dff_here u (Flag p d) e = map-none (step2 n).flop_pin (dff_cells n) u (λ x m q. let w : Dff x ≡ Flag p d = sym (dff_pin n acc x m).1 ∙ ap (driver_at ds) q ∙ e in clash (cc))
  dff_here u (Ram c) e = map-none (step2 n).flop_pin (dff_cells n) u (λ x m q. let w : Dff x ≡ Ram c = sym (dff_pin n acc x m).1 ∙ ap (driver_at ds) q ∙ e in clash (cc))
  dff_here u Constant e = map-none (step2 n).flop_pin (dff_cells n) u (λ x m q. let w : Dff x ≡ Constant = sym (dff_pin n acc x m).1 ∙ ap (driver_at ds) q ∙ e in clash (cc))

  dffs_fit : one_for_one is_dff (dff_pins g) g ≡ true
  dffs_fit = both_true (every (λ p. p ≤? pin_count g) (dff_pins g)) (every (λ u. count u (dff_pins g) == one (is_dff (driver_of g u))) (upto (pin_count g + 1)))
      (rw dff_pins_lem (every_all (λ p. p ≤? pin_count g) (map (step2 n).flop_pin (dff_cells n))
      (λ p m. from_map (step2 n).flop_pin p (dff_cells n) m (λ c mc e. rw e (below ((step2 n).flop_pin c) (dff_pin n acc c mc).0)))))
      (rw dff_pins_lem (every_upto (λ u. count u (map (step2 n).flop_pin (dff_cells n)) == one (is_dff (driver_of g u))) (pin_count g + 1)
      (λ u h. eq-eqb (count u (map (step2 n).flop_pin (dff_cells n))) (one (is_dff (driver_of g u))) (dff_here u (driver_of g u) refl))))

  -- the RAMs' read-data pins
  abbrev reads : ℕ → List ℕ
  reads c = map ((step2 n).read_pin c) (upto 32)

  ram_pins_lem : ram_pins g ≡ keep (λ p. 0 <? p) (flat reads (ram_cells n))
  ram_pins_lem = ap (keep (λ p. 0 <? p)) (flat_map (λ (r : RamRow). r.read_data) (ram_row_of n (step2 n) (step3 n)) (ram_cells n))

  -- a pin above 0 in the rows of a cell has that cell's driver
  read_driver : (u c : ℕ) → 0 < u → 0 < count u (reads c) → (u < length ds) × (driver_at ds u ≡ Ram c)
  read_driver u c z m = from_map ((step2 n).read_pin c) u (upto 32) m (λ i mi e.
      let a = ram_pin n acc c i (omega (arith, z, e)) in (omega (arith, a.0, e), ap (driver_at ds) e ∙ a.1))

  none_read : (u : ℕ) (d : Driver) → 0 < u → driver_at ds u ≡ d → ((x : ℕ) → Ram x ≡ d → ⊥) → count u (flat reads (ram_cells n)) ≡ 0
  none_read u d z e ne = flat-none reads (ram_cells n) u (λ x mx. by_test (member u (reads x))
      (λ t. absurd (ne x (sym (read_driver u x z (member_true u (reads x) t)).1 ∙ e)))
      (λ f. member_false u (reads x) f))

  all_read : (u : ℕ) (d : Driver) → 0 < u → driver_at ds u ≡ d → count u (flat reads (ram_cells n)) ≡ one (is_ram d)
  all_read u (Ram c) z e =
      let a = ram_of n acc u c e in
      let pos : 0 < (step2 n).read_pin c a.0 = omega (arith, z, a.2) in
      let once : count u (reads c) ≡ 1 = map-once ((step2 n).read_pin c) (upto 32) u a.0 a.2 (λ x m q. sym (ram_apart n acc c a.0 x pos (a.2 ∙ sym q))) ∙ upto_in 32 a.0 a.1 in
      flat-once reads (ram_cells n) u c once (λ x mx ne. by_test (member u (reads x))
      (λ t. let w : Ram x ≡ Ram c = sym (read_driver u x z (member_true u (reads x) t)).1 ∙ e in let q : x ≡ c = cc in absurd (ne q))
      (λ f. member_false u (reads x) f))
      ∙ omega (arith, (ram_pin n acc c a.0 pos).2, ram_once n acc c)
  all_read u (And a b) z e = none_read u (And a b) z e (λ x q. clash (cc))
  all_read u (Port p) z e = none_read u (Port p) z e (λ x q. clash (cc))
  all_read u (Flag p d) z e = none_read u (Flag p d) z e (λ x q. clash (cc))
  all_read u (Dff c) z e = none_read u (Dff c) z e (λ x q. clash (cc))
  all_read u Constant z e = none_read u Constant z e (λ x q. clash (cc))

  ram_here : (u : ℕ) → count u (keep (λ p. 0 <? p) (flat reads (ram_cells n))) ≡ one (is_ram (driver_of g u))
  ram_here zero = count-drop (λ p. 0 <? p) 0 (flat reads (ram_cells n)) refl ∙ sym (ap (λ (d : Driver). one (is_ram d)) built_sound.first)
  ram_here (suc u) = count-keep (λ p. 0 <? p) (suc u) (flat reads (ram_cells n)) (lt-ltb 0 (suc u) (omega arith)) ∙ all_read (suc u) (driver_of g (suc u)) (omega arith) refl

  rams_fit : one_for_one is_ram (ram_pins g) g ≡ true
  rams_fit = both_true (every (λ p. p ≤? pin_count g) (ram_pins g)) (every (λ u. count u (ram_pins g) == one (is_ram (driver_of g u))) (upto (pin_count g + 1)))
      (rw ram_pins_lem (every_all (λ p. p ≤? pin_count g) (keep (λ p. 0 <? p) (flat reads (ram_cells n))) inside))
      (rw ram_pins_lem (every_upto (λ u. count u (keep (λ p. 0 <? p) (flat reads (ram_cells n))) == one (is_ram (driver_of g u))) (pin_count g + 1)
      (λ u h. eq-eqb (count u (keep (λ p. 0 <? p) (flat reads (ram_cells n)))) (one (is_ram (driver_of g u))) (ram_here u))))
    where
      inside : (p : ℕ) → 0 < count p (keep (λ q. 0 <? q) (flat reads (ram_cells n))) → (p ≤? pin_count g) ≡ true
      inside zero m = le-leb 0 (pin_count g) (omega arith)
      inside (suc p) m = of_flat reads (suc p) (ram_cells n) (omega (arith, m, keep_le (λ q. 0 <? q) (suc p) (flat reads (ram_cells n))))
          (λ c mc w. below (suc p) (read_driver (suc p) c (omega arith) w).0)

  -- the literals
  literal_fits : (l : ℕ) → 0 < count l (literals_in g) → pin_of l < length ds
  literal_fits l m = of_append l g.outputs (flat (λ (r : Record). r.next ∷ r.enable ∷ []) g.dffs ++ flat ram_literals g.rams) m
      (λ w. output_fits n acc l w)
      (λ w. of_append l (flat (λ (r : Record). r.next ∷ r.enable ∷ []) g.dffs) (flat ram_literals g.rams) w
      (λ x. of_rows (λ (r : Record). r.next ∷ r.enable ∷ []) (record_of (step2 n) (step3 n)) l (dff_cells n) x (λ c mc y.
      at_head l ((step3 n).nexts c) ((step3 n).enables c ∷ []) y (λ e. rw e (next_fits n acc c).0)
      (λ y'. at_head l ((step3 n).enables c) [] y' (λ e. rw e (next_fits n acc c).1) (λ y''. absurd (omega arith)))))
      (λ x. of_rows ram_literals (ram_row_of n (step2 n) (step3 n)) l (ram_cells n) x (λ c mc y. let a = ram_cell n acc c mc in ram_fits n acc c l a.0 a.1 y)))

  pub records_fit_lem : records_fit (graph_of n) ≡ true
  records_fit_lem = rw (dffs_fit, rams_fit) (both_true (every (λ l. pin_of l ≤? pin_count g) (literals_in g)) (every (λ l. count l g.outputs == 1) g.outputs)
      (every_all (λ l. pin_of l ≤? pin_count g) (literals_in g) (λ l m. below (pin_of l) (literal_fits l m)))
      (every_all (λ l. count l g.outputs == 1) g.outputs (λ l m. eq-eqb (count l g.outputs) 1 (omega (arith, m, (step2_behind n acc).outs_once l)))))

  -- ---- in words
  row-shaped : (c : ℕ) → Shaped (ram_row_of n (step2 n) (step3 n) c)
  row-shaped c = record {
    read_address = length-map-upto (λ i. first_or 0 (step2 n).lits (named_bit n c #R_ADDR i)) 13;
    read_data = length-map-upto ((step2 n).read_pin c) 32;
    write_address = length-map-upto (λ i. first_or 0 (step2 n).lits (named_bit n c #W_ADDR i)) 13;
    write_enable = length-map-upto ((step3 n).writes c) 32;
    write_data = length-map-upto (λ i. first_or 0 (step2 n).lits (named_bit n c #W_DATA i)) 32;
  }

  pub rows_shaped : (k : ℕ) → k < length (graph_of n).rams → Shaped (get_or (graph_of n).rams k no_ram)
  rows_shaped k h = subst Shaped (sym (ram_row_lem n k (omega (arith, ram_count n)))) (row-shaped (get_or (ram_cells n) k 0))

  -- read back from its words it is the graph
  pub built_back : graph_in (counts_of (graph_of n)) (words_of (graph_of n)) ≡ graph_of n
  built_back = graph_back (graph_of n) built_sound.start rows_shaped

  pub built_fits : graph_fits (counts_of (graph_of n)) (words_of (graph_of n)) ≡ true
  built_fits = both_true (drivers_fit (flat driver_words ds) (pin_count g)) (records_fit (graph_in (counts_of g) (words_of g))) (drivers_fit_lem ds built_sound)
      (subst (λ (x : Graph). records_fit x ≡ true) (sym built_back) records_fit_lem)

  built_long : graph_long (counts_of (graph_of n)) (words_of (graph_of n)) ≡ true
  built_long =
      let d : length (flat driver_words ds) ≡ 3 * (pin_count g + 1) = omega (arith, driver_words_lem ds, built_sound.start) in
      rw (eq-eqb (length (flat driver_words ds)) (3 * (pin_count g + 1)) d, eq-eqb (length g.outputs) (length g.outputs) refl)
      (both_true _ _ (eq-eqb _ _ (record_words_lem g.dffs)) (eq-eqb _ _ (ram_words_lem g.rams rows_shaped)))

  -- so the graph check accepts it, where its counts are within bounds and there is work room
  pub built_checks : (work : ℕ) → graph_within (counts_of (graph_of n)) ≡ true → stage_work (pin_count (graph_of n)) (endpoints (counts_of (graph_of n))) ≤ work
      → check_graph_number (counts_of (graph_of n)) (words_of (graph_of n)) work ≡ 0
  unfolding check_graph_number
  built_checks work within room = rw (within, built_long, le-leb (stage_work (pin_count g) (endpoints (counts_of g))) work room, built_fits)
