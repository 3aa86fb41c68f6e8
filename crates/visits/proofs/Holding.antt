-- What the words hold after an entry is made: one law for each sort of entry.
use mathlib.Core.Path.{◌≡◌, refl, sym, ap, subst, ◌∙◌}
use mathlib.Core.List.{List, [], ◌∷◌, ◌++◌}
use Prim.Native.Nat.{ℕ, suc, ◌+◌, ◌*◌, ◌≤◌, ◌<◌}
use native.Mathlib.Omega.{arith}
use native.Mathlib.Numerals.{add-one}
use lib.ListN.{length, get_or, set, length-set, length-append}
use lib.Seq.{get_or-set_same, get_or-set_other}
use borrow.Author.Tests.{eq-eqb, ne_eqb, eqb-true, eqb-false, leb-true, leb-false}
use Rattle.std.specs.Prelude.{◌==◌, Option, Some, None}
use Rattle.laws.specs.Tests.{◌≤?◌, one}
use Rattle.laws.specs.Lists.{member, count}
use Rattle.laws.specs.Sets.{insert}
use Rattle.laws.specs.Words.{filled}
use Rattle.laws.proofs.Tests.{by_test, one_set, one_zero}
use Rattle.laws.proofs.Bags.{put_by, member_true, member_false, member_last, member_other}
use Rattle.laws.proofs.Sets.{insert_old, insert_new}
use Rattle.laws.proofs.Words.{get_d_set, filled_more, filled-length}
use Rattle.rules.specs.declared.Driver.{Driver}
use Rattle.rules.specs.declared.Driver.TheVariants.{Dff, Ram}
use Rattle.rules.specs.declared.Tally.{Tally}
use Rattle.rules.specs.declared.Rooms.{Rooms}
use Rattle.rules.specs.Netlist.{Netlist, size, cells, start_of, kind_of, dff, ram, cell_of}
use Rattle.rules.specs.Graph.{pin_of, Made}
use Rattle.rules.specs.Build.{Build, out_port, dff_out, ram_out, with_lit, entering, leaving}
use Rattle.rules.specs.Refusals.{tables_number}
use Rattle.rules.specs.Tables.{edge_word}
use Rattle.rules.proofs.Roles.{dff_words, dff_output}
use Rattle.rules.proofs.Tables.{clash}
use Rattle.drivers.proofs.Rows.{drivers_long_lem, one-longer}
use Rattle.tallies.specs.Counted.{output_counted, dff_counted, ram_counted}
use Rattle.orders.specs.State.{event_of}
use Rattle.drafts.specs.Table.{Table, drafted, SameEnds}
use Rattle.drafts.specs.Layout.{index_at, number_in, Written}
use Rattle.drafts.proofs.Steps.{table_store}
use Rattle.literals.specs.Settled.{word_at, Left, left, full}
use Rattle.numbers.specs.Numbering.{counted, numbered, flops_counted, rams_counted}
use Rattle.entries.specs.Made.{own_words, data_words, FlopMade, flop, no_flop, RamMade, no_ram_lem, OutputMade, known, new, no_output}
use Rattle.entries.specs.Made as entry
use Rattle.flags.proofs.Words.{edge_le}
use Rattle.visits.specs.Drafting.{Drafting, Listed, pins_over, outputs_over, dffs_over, rams_over, Moved, moved, stuck}
use Rattle.visits.proofs.Places.{number_new, number_old, number_other, longer_new, longer_old, pin_start, start-below, start_apart}

module _ (n : Netlist) (acc : tables_number n ≡ 0) where
  -- a flip-flop has a pin, so a list
  pub dff_listed : (c : ℕ) → c < cells n → kind_of n c ≡ dff → start_of n c < start_of n (c + 1)
  dff_listed c l k =
      let o = dff_output n acc c l k in
      let e : cell_of n o.0 ≡ c = (dff_words n o.0 c o.2).2 in
      subst (λ (x : ℕ). start_of n x < start_of n (x + 1)) e (pin_start n acc o.0 o.1)

  dff_start : (c : ℕ) → c < cells n → kind_of n c ≡ dff → start_of n c < size n
  dff_start c l k = start-below n acc c l (dff_listed c l k)

  ram_listed : (c : ℕ) → start_of n c < start_of n (suc c) → start_of n c < start_of n (c + 1)
  ram_listed c h = omega (arith, h, ap (start_of n) (add-one c))

  ram_start : (c : ℕ) → c < cells n → start_of n c < start_of n (suc c) → start_of n c < size n
  ram_start c l h = start-below n acc c l (ram_listed c h)

  module _ (rm : Rooms) (w ws : List ℕ) (t : Tally) (b : Build) (d : Drafting n rm w ws t b) where
    abbrev m : ℕ
    m = size n

    abbrev at : ℕ
    at = index_at (size n) rm.pins

    count_is : t.pins + 1 ≡ length b.drivers
    count_is = sym (drivers_long_lem ws t.pins) ∙ ap length d.drivers

    -- the events and the flags lie between, where nothing is written
    again : (w' ws' : List ℕ) (t' : Tally) (b' : Build) → Table (index_at (size n) rm.pins) w' ws' t' → length ws' ≡ length ws → drafted ws' t' ≡ b'.drivers
        → Written n w' b' → ((l : ℕ) → l < 2 * rm.pins + 2 → get_or w' (8 * size n + l) 0 ≡ one (member l b'.outs))
        → t'.outputs ≡ length b'.outs → t'.dffs ≡ length b'.flops → t'.rams ≡ length b'.rams → t'.dffs ≤ rm.dffs → t'.rams ≤ rm.rams
        → ((j : ℕ) → 2 * size n ≤ j → j < 6 * size n → get_or w' j 0 ≡ get_or w j 0)
        → Drafting n rm w' ws' t' b'
    again w' ws' t' b' tb lw dr wr mk os fs rs ff rf mid = record {
      sized = d.sized;
      table = tb;
      long = lw ∙ d.long;
      drivers = dr;
      written = wr;
      marked = mk;
      outputs = os;
      dffs = fs;
      rams = rs;
      dffs_fit = ff;
      rams_fit = rf;
      order = λ i l. ap event_of (mid (2 * size n + i) (omega arith) (omega (arith, l))) ∙ d.order i l;
      flags = record { words = λ q e l. mid (4 * size n + 2 * q + edge_word e) (omega arith) (omega (arith, l, edge_le e)) ∙ d.flags.words q e l };
    }

    -- ---- a pin takes a literal
    module _ (p : ℕ) (lp : p < size n) (k : Made) (os : List ℕ) (ls : Listed rm os b) where
      pub left_moves : (w' ws' : List ℕ) (r : Option Tally) → Left (index_at (size n) rm.pins) (size n) p k w ws t w' ws' r
          → Moved n rm (with_lit b p k.drivers k.lit) w ws os w' ws' os r
      left_moves w' ws' r (left u e tb dr se ex lt lw) = moved u e
          (again w' ws' u (with_lit b p k.drivers k.lit) tb lw dr
          (record {
            lits = λ q lq. put_by (λ (x : ℕ) (v : ℕ). get_or w' (7 * size n + x) 0 ≡ v) b.lits p k.lit q
                (λ same. ap (word_at w' (size n)) same ∙ lt)
                (λ ne. ex.same (7 * size n + q) (omega (arith, lq)) (λ z. ne (omega (arith, z))) ∙ d.written.lits q lq);
            flop_numbers = λ c lc kc. let s = dff_start c lc kc in ex.same (6 * size n + start_of n c) (omega (arith, s)) (λ z. omega (arith, s, z)) ∙ d.written.flop_numbers c lc kc;
            flop_pins = λ c lc kc. let s = dff_start c lc kc in ex.same (size n + start_of n c) (omega (arith, s)) (λ z. omega (arith, s, z)) ∙ d.written.flop_pins c lc kc;
            ram_numbers = λ c lc kc h. let s = ram_start c lc h in ex.same (6 * size n + start_of n c) (omega (arith, s)) (λ z. omega (arith, s, z)) ∙ d.written.ram_numbers c lc kc h;
          })
          (λ l h. ex.same (8 * size n + l) (omega (arith, h)) (λ z. omega (arith, lp, z)) ∙ d.marked l h)
          (se.outputs ∙ d.outputs) (se.dffs ∙ d.dffs) (se.rams ∙ d.rams)
          (omega (arith, se.dffs, d.dffs_fit)) (omega (arith, se.rams, d.rams_fit))
          (λ j lo hi. ex.same j (omega (arith, hi)) (λ z. omega (arith, hi, z))))
          (record { fits = ls.fits; words = ls.words }) ex.long
      left_moves w' ws' r (full e l lw lws) = stuck e (pins_over (omega (arith, l, d.long))) lw lws refl

    -- ---- a flip-flop is entered
    module _ (c : ℕ) (lc : c < cells n) (kc : kind_of n c ≡ dff) (os : List ℕ) (ls : Listed rm os b) where
      abbrev place : ℕ
      place = start_of n c

      start-low : start_of n c < size n
      start-low = dff_start c lc kc

      abbrev after : Build
      after = entering b (dff_out c)

      module _ (ws' : List ℕ) (u : Tally) (tb : Table (index_at (size n) rm.pins) w ws' u) (dr : drafted ws' u ≡ drafted ws t ++ (Dff c ∷ [])) (se : SameEnds t u) (lws : length ws' ≡ length ws) where
        abbrev own : List ℕ
        own = own_words w (size n) (start_of n c) u

        pin_is : u.pins ≡ length b.drivers
        pin_is = omega (arith, drivers_long_lem ws' u.pins, ap length dr, one-longer (drafted ws t) (Dff c), drivers_long_lem ws t.pins, count_is)

        number-before : get_or own (6 * size n + start_of n c) 0 ≡ number_in b.flops c
        number-before = get_or-set_other w (size n + start_of n c) (6 * size n + start_of n c) u.pins 0 (λ z. omega (arith, start-low, z)) ∙ d.written.flop_numbers c lc kc

        -- with the number v at its place, whatever the tallies of flip-flops
        flop_holds : (w' : List ℕ) (t' : Tally) → length w' ≡ length w → Table (index_at (size n) rm.pins) w' ws' t' → drafted ws' t' ≡ drafted ws' u
            → ((j : ℕ) → (j ≡ 6 * size n + start_of n c → ⊥) → get_or w' j 0 ≡ get_or own j 0) → get_or w' (6 * size n + start_of n c) 0 ≡ number_in (insert b.flops c) c
            → t'.outputs ≡ u.outputs → t'.dffs ≡ length (insert b.flops c) → t'.rams ≡ u.rams → t'.dffs ≤ rm.dffs
            → Drafting n rm w' ws' t' (entering b (dff_out c))
        flop_holds w' t' lw tb' dr' other here to td tr fit = again w' ws' t' after tb' lws (dr' ∙ dr ∙ ap (λ (x : List Driver). x ++ (Dff c ∷ [])) d.drivers)
            (record {
              lits = λ q lq. far (7 * size n + q) (omega (arith, lq)) (λ z. omega (arith, start-low, z)) (λ z. omega (arith, start-low, z)) ∙ d.written.lits q lq;
              flop_numbers = λ x lx kx. by_test (x == c)
                  (λ y. let e : x ≡ c = eqb-true x c y in subst (λ (v : ℕ). get_or w' (6 * size n + start_of n v) 0 ≡ number_in (insert b.flops c) v) (sym e) here)
                  (λ f. let ne = eqb-false x c f in let s = dff_start x lx kx in let a = start_apart n acc c x lc lx (dff_listed c lc kc) (dff_listed x lx kx) ne in
                  far (6 * size n + start_of n x) (omega (arith, s)) (λ z. a (omega (arith, z))) (λ z. omega (arith, s, start-low, z))
                  ∙ d.written.flop_numbers x lx kx ∙ sym (number_other b.flops c x ne));
              flop_pins = λ x lx kx. put_by (λ (y : ℕ) (v : ℕ). get_or w' (size n + start_of n y) 0 ≡ v) b.flop_pin c (length b.drivers) x
                  (λ e. ap (λ (y : ℕ). get_or w' (size n + start_of n y) 0) e ∙ other (size n + start_of n c) (λ z. omega (arith, start-low, z))
                  ∙ get_or-set_same w (size n + start_of n c) u.pins 0 (omega (arith, start-low, tb.ready.wide)) ∙ pin_is)
                  (λ ne. let s = dff_start x lx kx in let a = start_apart n acc c x lc lx (dff_listed c lc kc) (dff_listed x lx kx) ne in
                  far (size n + start_of n x) (omega (arith, s)) (λ z. omega (arith, s, start-low, z)) (λ z. a (omega (arith, z))) ∙ d.written.flop_pins x lx kx);
              ram_numbers = λ x lx kx h. let s = ram_start x lx h in
                  let ne : x ≡ c → ⊥ = λ e. (let q : dff ≡ ram = sym kc ∙ ap (kind_of n) (sym e) ∙ kx in clash (cc)) in
                  let a = start_apart n acc c x lc lx (dff_listed c lc kc) (ram_listed x h) ne in
                  far (6 * size n + start_of n x) (omega (arith, s)) (λ z. a (omega (arith, z))) (λ z. omega (arith, s, start-low, z)) ∙ d.written.ram_numbers x lx kx h;
            })
            (λ l h. far (8 * size n + l) (omega (arith, h)) (λ z. omega (arith, start-low, z)) (λ z. omega (arith, start-low, z)) ∙ d.marked l h)
            (to ∙ se.outputs ∙ d.outputs) td (tr ∙ se.rams ∙ d.rams) fit (omega (arith, tr, se.rams, d.rams_fit))
            (λ j lo hi. far j (omega (arith, hi)) (λ z. omega (arith, hi, z)) (λ z. omega (arith, lo, start-low, z)))
          where
            far : (j : ℕ) → j < at → (j ≡ 6 * size n + start_of n c → ⊥) → (j ≡ size n + start_of n c → ⊥) → get_or w' j 0 ≡ get_or w j 0
            far j l ne ne' = other j ne ∙ get_or-set_other w (size n + start_of n c) j u.pins 0 ne'

        own-table : Table (index_at (size n) rm.pins) own ws' u
        own-table = table_store at w ws' u (size n + start_of n c) u.pins (omega (arith, start-low)) tb

        own_long : length own ≡ length w
        own_long = length-set w (size n + start_of n c) u.pins

        listed : Listed rm os after
        listed = record { fits = ls.fits; words = ls.words }

        -- its record has a number already
        flop_old : (number_in b.flops c ≡ 0 → ⊥) → (w' : List ℕ) (r : Option Tally) → w' ≡ numbered own (6 * size n + start_of n c) u.dffs
            → r ≡ flops_counted u (counted own (6 * size n + start_of n c) u.dffs) rm.dffs → Moved n rm after w ws os w' ws' os r
        flop_old ne w' r ew er =
            let z = ne_eqb (get_or own (6 * size n + start_of n c) 0) 0 (λ q. ne (sym number-before ∙ q)) in
            let ew' : w' ≡ own = ew ∙ rw z in
            let er' : r ≡ Some u = er ∙ rw (z, eq-eqb u.dffs u.dffs refl) in
            subst (λ (x : List ℕ). Moved n rm after w ws os x ws' os r) (sym ew')
            (subst (λ (x : Option Tally). Moved n rm after w ws os own ws' os x) (sym er')
            (moved u refl
            (flop_holds own u own_long own-table refl (λ j k. refl) (number-before ∙ sym (number_old b.flops c ne)) refl
            (se.dffs ∙ d.dffs ∙ sym (longer_old b.flops c ne)) refl (omega (arith, se.dffs, d.dffs_fit)))
            listed own_long))

        flop_new : number_in b.flops c ≡ 0 → (w' : List ℕ) (r : Option Tally) → w' ≡ numbered own (6 * size n + start_of n c) u.dffs
            → r ≡ flops_counted u (counted own (6 * size n + start_of n c) u.dffs) rm.dffs → Moved n rm after w ws os w' ws' os r
        flop_new none w' r ew er =
            let z = eq-eqb (get_or own (6 * size n + start_of n c) 0) 0 (number-before ∙ none) in
            let more = longer_new b.flops c none in
            let ew' : w' ≡ set own (6 * size n + start_of n c) (u.dffs + 1) = ew ∙ rw z in
            let long' : length w' ≡ length w = ap length ew' ∙ length-set own (6 * size n + start_of n c) (u.dffs + 1) ∙ own_long in
            let ne = ne_eqb (u.dffs + 1) u.dffs (λ q. omega (arith, q)) in
            by_test (rm.dffs ≤? u.dffs)
            (λ y. let er' : r ≡ None = er ∙ rw (z, ne, y) in
            stuck er' (dffs_over (omega (arith, leb-true rm.dffs u.dffs y, more, se.dffs, d.dffs))) long' lws refl)
            (λ f. let er' : r ≡ Some (dff_counted u) = er ∙ rw (z, ne, f) in
            subst (λ (x : Option Tally). Moved n rm after w ws os w' ws' os x) (sym er')
            (moved (dff_counted u) refl
            (flop_holds w' (dff_counted u) long'
            (subst (λ (x : List ℕ). Table (index_at (size n) rm.pins) x ws' (dff_counted u)) (sym ew') (recounted
            (table_store at own ws' u (6 * size n + start_of n c) (u.dffs + 1) (omega (arith, start-low)) own-table)))
            refl
            (λ j k. ap (λ (x : List ℕ). get_or x j 0) ew' ∙ get_or-set_other own (6 * size n + start_of n c) j (u.dffs + 1) 0 k)
            (ap (λ (x : List ℕ). get_or x (6 * size n + start_of n c) 0) ew'
            ∙ get_or-set_same own (6 * size n + start_of n c) (u.dffs + 1) 0 (omega (arith, start-low, own_long, tb.ready.wide))
            ∙ ap (λ (x : ℕ). x + 1) (se.dffs ∙ d.dffs) ∙ sym (number_new b.flops c none))
            refl (ap (λ (x : ℕ). x + 1) (se.dffs ∙ d.dffs) ∙ sym more) refl (omega (arith, leb-false rm.dffs u.dffs f)))
            listed long'))
          where
            recounted : {x : List ℕ} → Table (index_at (size n) rm.pins) x ws' u → Table (index_at (size n) rm.pins) x ws' (dff_counted u)
            recounted h = record { ready = h.ready; gates = h.gates; few = h.few }

      pub flop_moves : (w' ws' : List ℕ) (r : Option Tally) → FlopMade (size n) (index_at (size n) rm.pins) rm.dffs c (start_of n c) w ws t w' ws' r
          → Moved n rm (entering b (dff_out c)) w ws os w' ws' os r
      flop_moves w' ws' r (no_flop e l ew lws) =
          stuck e (pins_over (omega (arith, l, d.long, one-longer (drafted ws t) (Dff c), one-longer b.drivers (Dff c), ap length d.drivers))) (ap length ew) lws refl
      flop_moves w' ws' r (flop u tb dr se lws ew er) = by_test (number_in b.flops c == 0)
          (λ y. flop_new ws' u tb dr se lws (eqb-true (number_in b.flops c) 0 y) w' r ew er)
          (λ f. flop_old ws' u tb dr se lws (eqb-false (number_in b.flops c) 0 f) w' r ew er)

    -- ---- the output of a RAM is left
    module _ (c x p : ℕ) (lp : p < size n) (lc : c < cells n) (kc : kind_of n c ≡ ram) (hc : start_of n c < start_of n (c + 1)) (os : List ℕ) (ls : Listed rm os b) where
      ram_low : start_of n c < size n
      ram_low = start-below n acc c lc hc

      module _ (ws' : List ℕ) (u : Tally) (tb : Table (index_at (size n) rm.pins) w ws' u) (dr : drafted ws' u ≡ drafted ws t ++ (Ram c ∷ [])) (se : SameEnds t u) (lws : length ws' ≡ length ws) where
        abbrev read : List ℕ
        read = data_words w (size n) p ws t

        ram_before : get_or read (6 * size n + start_of n c) 0 ≡ number_in b.rams c
        ram_before = get_or-set_other w (7 * size n + p) (6 * size n + start_of n c) (2 * length (drafted ws t)) 0 (λ z. omega (arith, ram_low, z))
            ∙ d.written.ram_numbers c lc kc (omega (arith, hc, ap (start_of n) (add-one c)))

        ram_holds : (w' : List ℕ) (t' : Tally) → length w' ≡ length w → Table (index_at (size n) rm.pins) w' ws' t' → drafted ws' t' ≡ drafted ws' u
            → ((j : ℕ) → (j ≡ 6 * size n + start_of n c → ⊥) → get_or w' j 0 ≡ get_or read j 0) → get_or w' (6 * size n + start_of n c) 0 ≡ number_in (insert b.rams c) c
            → t'.outputs ≡ u.outputs → t'.dffs ≡ u.dffs → t'.rams ≡ length (insert b.rams c) → t'.rams ≤ rm.rams
            → Drafting n rm w' ws' t' (leaving n b p (ram_out c x))
        ram_holds w' t' lw tb' dr' other here to td tr fit = again w' ws' t' (leaving n b p (ram_out c x)) tb' lws (dr' ∙ dr ∙ ap (λ (y : List Driver). y ++ (Ram c ∷ [])) d.drivers)
            (record {
              lits = λ q lq. put_by (λ (y : ℕ) (v : ℕ). get_or w' (7 * size n + y) 0 ≡ v) b.lits p (2 * length b.drivers) q
                  (λ e. ap (λ (y : ℕ). get_or w' (7 * size n + y) 0) e ∙ other (7 * size n + p) (λ z. omega (arith, ram_low, z))
                  ∙ get_or-set_same w (7 * size n + p) (2 * length (drafted ws t)) 0 (omega (arith, lp, tb.ready.wide)) ∙ ap (λ (y : List Driver). 2 * length y) d.drivers)
                  (λ ne. far (7 * size n + q) (omega (arith, lq)) (λ z. omega (arith, ram_low, z)) (λ z. ne (omega (arith, z))) ∙ d.written.lits q lq);
              flop_numbers = λ y ly ky. let s = dff_start y ly ky in
                  let ne : y ≡ c → ⊥ = λ e. (let q : dff ≡ ram = sym ky ∙ ap (kind_of n) e ∙ kc in clash (cc)) in
                  let a = start_apart n acc c y lc ly hc (dff_listed y ly ky) ne in
                  far (6 * size n + start_of n y) (omega (arith, s)) (λ z. a (omega (arith, z))) (λ z. omega (arith, s, z)) ∙ d.written.flop_numbers y ly ky;
              flop_pins = λ y ly ky. let s = dff_start y ly ky in far (size n + start_of n y) (omega (arith, s)) (λ z. omega (arith, s, z)) (λ z. omega (arith, s, z)) ∙ d.written.flop_pins y ly ky;
              ram_numbers = λ y ly ky h. by_test (y == c)
                  (λ q. let e : y ≡ c = eqb-true y c q in subst (λ (v : ℕ). get_or w' (6 * size n + start_of n v) 0 ≡ number_in (insert b.rams c) v) (sym e) here)
                  (λ f. let ne = eqb-false y c f in let s = ram_start y ly h in let a = start_apart n acc c y lc ly hc (ram_listed y h) ne in
                  far (6 * size n + start_of n y) (omega (arith, s)) (λ z. a (omega (arith, z))) (λ z. omega (arith, s, z))
                  ∙ d.written.ram_numbers y ly ky h ∙ sym (number_other b.rams c y ne));
            })
            (λ l h. far (8 * size n + l) (omega (arith, h)) (λ z. omega (arith, ram_low, z)) (λ z. omega (arith, lp, z)) ∙ d.marked l h)
            (to ∙ se.outputs ∙ d.outputs) (td ∙ se.dffs ∙ d.dffs) tr (omega (arith, td, se.dffs, d.dffs_fit)) fit
            (λ j lo hi. far j (omega (arith, hi)) (λ z. omega (arith, hi, z)) (λ z. omega (arith, hi, z)))
          where
            far : (j : ℕ) → j < at → (j ≡ 6 * size n + start_of n c → ⊥) → (j ≡ 7 * size n + p → ⊥) → get_or w' j 0 ≡ get_or w j 0
            far j l ne ne' = other j ne ∙ get_or-set_other w (7 * size n + p) j (2 * length (drafted ws t)) 0 ne'

        read_table : Table (index_at (size n) rm.pins) read ws' u
        read_table = table_store at w ws' u (7 * size n + p) (2 * length (drafted ws t)) (omega (arith, lp)) tb

        read_long : length read ≡ length w
        read_long = length-set w (7 * size n + p) (2 * length (drafted ws t))

        ram_listed_too : Listed rm os (leaving n b p (ram_out c x))
        ram_listed_too = record { fits = ls.fits; words = ls.words }

        ram_old : (number_in b.rams c ≡ 0 → ⊥) → (w' : List ℕ) (r : Option Tally) → w' ≡ numbered read (6 * size n + start_of n c) u.rams
            → r ≡ rams_counted u (counted read (6 * size n + start_of n c) u.rams) rm.rams → Moved n rm (leaving n b p (ram_out c x)) w ws os w' ws' os r
        ram_old ne w' r ew er =
            let z = ne_eqb (get_or read (6 * size n + start_of n c) 0) 0 (λ q. ne (sym ram_before ∙ q)) in
            let ew' : w' ≡ read = ew ∙ rw z in
            let er' : r ≡ Some u = er ∙ rw (z, eq-eqb u.rams u.rams refl) in
            subst (λ (y : List ℕ). Moved n rm (leaving n b p (ram_out c x)) w ws os y ws' os r) (sym ew')
            (subst (λ (y : Option Tally). Moved n rm (leaving n b p (ram_out c x)) w ws os read ws' os y) (sym er')
            (moved u refl
            (ram_holds read u read_long read_table refl (λ j k. refl) (ram_before ∙ sym (number_old b.rams c ne)) refl refl
            (se.rams ∙ d.rams ∙ sym (longer_old b.rams c ne)) (omega (arith, se.rams, d.rams_fit)))
            ram_listed_too read_long))

        ram_new : number_in b.rams c ≡ 0 → (w' : List ℕ) (r : Option Tally) → w' ≡ numbered read (6 * size n + start_of n c) u.rams
            → r ≡ rams_counted u (counted read (6 * size n + start_of n c) u.rams) rm.rams → Moved n rm (leaving n b p (ram_out c x)) w ws os w' ws' os r
        ram_new none w' r ew er =
            let z = eq-eqb (get_or read (6 * size n + start_of n c) 0) 0 (ram_before ∙ none) in
            let more = longer_new b.rams c none in
            let ew' : w' ≡ set read (6 * size n + start_of n c) (u.rams + 1) = ew ∙ rw z in
            let long' : length w' ≡ length w = ap length ew' ∙ length-set read (6 * size n + start_of n c) (u.rams + 1) ∙ read_long in
            let ne = ne_eqb (u.rams + 1) u.rams (λ q. omega (arith, q)) in
            by_test (rm.rams ≤? u.rams)
            (λ y. let er' : r ≡ None = er ∙ rw (z, ne, y) in
            stuck er' (rams_over (omega (arith, leb-true rm.rams u.rams y, more, se.rams, d.rams))) long' lws refl)
            (λ f. let er' : r ≡ Some (ram_counted u) = er ∙ rw (z, ne, f) in
            subst (λ (y : Option Tally). Moved n rm (leaving n b p (ram_out c x)) w ws os w' ws' os y) (sym er')
            (moved (ram_counted u) refl
            (ram_holds w' (ram_counted u) long'
            (subst (λ (y : List ℕ). Table (index_at (size n) rm.pins) y ws' (ram_counted u)) (sym ew') (recounted
            (table_store at read ws' u (6 * size n + start_of n c) (u.rams + 1) (omega (arith, ram_low)) read_table)))
            refl
            (λ j k. ap (λ (y : List ℕ). get_or y j 0) ew' ∙ get_or-set_other read (6 * size n + start_of n c) j (u.rams + 1) 0 k)
            (ap (λ (y : List ℕ). get_or y (6 * size n + start_of n c) 0) ew'
            ∙ get_or-set_same read (6 * size n + start_of n c) (u.rams + 1) 0 (omega (arith, ram_low, read_long, tb.ready.wide))
            ∙ ap (λ (y : ℕ). y + 1) (se.rams ∙ d.rams) ∙ sym (number_new b.rams c none))
            refl refl (ap (λ (y : ℕ). y + 1) (se.rams ∙ d.rams) ∙ sym more) (omega (arith, leb-false rm.rams u.rams f)))
            ram_listed_too long'))
          where
            recounted : {y : List ℕ} → Table (index_at (size n) rm.pins) y ws' u → Table (index_at (size n) rm.pins) y ws' (ram_counted u)
            recounted h = record { ready = h.ready; gates = h.gates; few = h.few }

      pub ram_moves : (w' ws' : List ℕ) (r : Option Tally) → RamMade (size n) (index_at (size n) rm.pins) rm.rams c (start_of n c) p w ws t w' ws' r
          → Moved n rm (leaving n b p (ram_out c x)) w ws os w' ws' os r
      ram_moves w' ws' r (no_ram_lem e l ew lws) =
          stuck e (pins_over (omega (arith, l, d.long, one-longer (drafted ws t) (Ram c), one-longer b.drivers (Ram c), ap length d.drivers))) (ap length ew) lws refl
      ram_moves w' ws' r (entry.ram u tb dr se lws ew er) = by_test (number_in b.rams c == 0)
          (λ y. ram_new ws' u tb dr se lws (eqb-true (number_in b.rams c) 0 y) w' r ew er)
          (λ f. ram_old ws' u tb dr se lws (eqb-false (number_in b.rams c) 0 f) w' r ew er)

    -- ---- an output port is left
    module _ (p q : ℕ) (lp : p < size n) (fits : pin_of (b.lits q) < length b.drivers) (os : List ℕ) (ls : Listed rm os b) where
      abbrev l : ℕ
      l = b.lits q

      low : b.lits q < 2 * rm.pins + 2
      low = omega (arith, fits, count_is, d.table.ready.long, d.long)

      abbrev taken : List ℕ
      taken = set w (7 * size n + p) (b.lits q)

      taken_mark : get_or taken (8 * size n + b.lits q) 0 ≡ one (member (b.lits q) b.outs)
      taken_mark = get_or-set_other w (7 * size n + p) (8 * size n + b.lits q) (b.lits q) 0 (λ z. omega (arith, lp, z)) ∙ d.marked (b.lits q) low

      taken_long : length taken ≡ length w
      taken_long = length-set w (7 * size n + p) (b.lits q)

      taken_table : Table (index_at (size n) rm.pins) taken ws t
      taken_table = table_store at w ws t (7 * size n + p) (b.lits q) (omega (arith, lp)) d.table

      -- with the outputs of this build
      out_holds : (w' : List ℕ) (t' : Tally) → Table (index_at (size n) rm.pins) w' ws t' → drafted ws t' ≡ drafted ws t
          → ((j : ℕ) → j < 8 * size n → get_or w' j 0 ≡ get_or taken j 0)
          → ((k : ℕ) → k < 2 * rm.pins + 2 → get_or w' (8 * size n + k) 0 ≡ one (member k (insert b.outs (b.lits q))))
          → t'.outputs ≡ length (insert b.outs (b.lits q)) → t'.dffs ≡ t.dffs → t'.rams ≡ t.rams → Drafting n rm w' ws t' (leaving n b p (out_port q))
      out_holds w' t' tb' dr' other marks to td tr = again w' ws t' (leaving n b p (out_port q)) tb' refl (dr' ∙ d.drivers)
          (record {
            lits = λ x lx. put_by (λ (y : ℕ) (v : ℕ). get_or w' (7 * size n + y) 0 ≡ v) b.lits p (b.lits q) x
                (λ e. ap (λ (y : ℕ). get_or w' (7 * size n + y) 0) e ∙ other (7 * size n + p) (omega (arith, lp))
                ∙ get_or-set_same w (7 * size n + p) (b.lits q) 0 (omega (arith, lp, d.table.ready.wide)))
                (λ ne. far (7 * size n + x) (omega (arith, lx)) (λ z. ne (omega (arith, z))) ∙ d.written.lits x lx);
            flop_numbers = λ x lx kx. let s = dff_start x lx kx in far (6 * size n + start_of n x) (omega (arith, s)) (λ z. omega (arith, s, z)) ∙ d.written.flop_numbers x lx kx;
            flop_pins = λ x lx kx. let s = dff_start x lx kx in far (size n + start_of n x) (omega (arith, s)) (λ z. omega (arith, s, z)) ∙ d.written.flop_pins x lx kx;
            ram_numbers = λ x lx kx h. let s = ram_start x lx h in far (6 * size n + start_of n x) (omega (arith, s)) (λ z. omega (arith, s, z)) ∙ d.written.ram_numbers x lx kx h;
          })
          marks to (td ∙ d.dffs) (tr ∙ d.rams) (omega (arith, td, d.dffs_fit)) (omega (arith, tr, d.rams_fit))
          (λ j lo hi. far j (omega (arith, hi)) (λ z. omega (arith, hi, z)))
        where
          far : (j : ℕ) → j < 8 * size n → (j ≡ 7 * size n + p → ⊥) → get_or w' j 0 ≡ get_or w j 0
          far j h ne = other j h ∙ get_or-set_other w (7 * size n + p) j (b.lits q) 0 ne

      marks_old : (k : ℕ) → k < 2 * rm.pins + 2 → get_or taken (8 * size n + k) 0 ≡ one (member k b.outs)
      marks_old k h = get_or-set_other w (7 * size n + p) (8 * size n + k) (b.lits q) 0 (λ z. omega (arith, lp, z)) ∙ d.marked k h

      pub output_moves : (w' os' : List ℕ) (r : Option Tally) → OutputMade (size n) p (b.lits q) w os t w' os' r → Moved n rm (leaving n b p (out_port q)) w ws os w' ws os' r
      output_moves w' os' r (known ne er ew eo) =
          let there : 0 < count (b.lits q) b.outs = member_true (b.lits q) b.outs (one_set (member (b.lits q) b.outs) (λ z. ne (taken_mark ∙ z))) in
          let same : insert b.outs (b.lits q) ≡ b.outs = insert_old b.outs (b.lits q) there in
          subst (λ (y : Option Tally). Moved n rm (leaving n b p (out_port q)) w ws os w' ws os' y) (sym er)
          (subst (λ (y : List ℕ). Moved n rm (leaving n b p (out_port q)) w ws os y ws os' (Some t)) (sym ew)
          (moved t refl
          (out_holds taken t taken_table refl (λ j h. refl)
          (λ k h. marks_old k h ∙ ap (λ (y : List ℕ). one (member k y)) (sym same)) (d.outputs ∙ ap length (sym same)) refl refl)
          (record { fits = omega (arith, ls.fits, ap length same); words = eo ∙ ls.words ∙ ap (λ (y : List ℕ). filled y rm.outputs) (sym same) }) taken_long))
      output_moves w' os' r (no_output z le er ew eo) =
          let absent : count (b.lits q) b.outs ≡ 0 = member_false (b.lits q) b.outs (one_zero (member (b.lits q) b.outs) (sym taken_mark ∙ z)) in
          let grows : length (insert b.outs (b.lits q)) ≡ length b.outs + 1 = ap length (insert_new b.outs (b.lits q) absent) ∙ length-append b.outs (b.lits q ∷ []) in
          stuck er
          (outputs_over (omega (arith, le, d.outputs, grows, ap length ls.words, filled-length b.outs rm.outputs ls.fits)))
          (ap length ew ∙ taken_long) refl (ap length eo)
      output_moves w' os' r (new z lt er ew eo) =
          let absent : count (b.lits q) b.outs ≡ 0 = member_false (b.lits q) b.outs (one_zero (member (b.lits q) b.outs) (sym taken_mark ∙ z)) in
          let more : insert b.outs (b.lits q) ≡ b.outs ++ (b.lits q ∷ []) = insert_new b.outs (b.lits q) absent in
          let grows : length (insert b.outs (b.lits q)) ≡ length b.outs + 1 = ap length more ∙ length-append b.outs (b.lits q ∷ []) in
          let room : length b.outs < rm.outputs = omega (arith, lt, d.outputs, ap length ls.words, filled-length b.outs rm.outputs ls.fits) in
          subst (λ (y : Option Tally). Moved n rm (leaving n b p (out_port q)) w ws os w' ws os' y) (sym er)
          (subst (λ (y : List ℕ). Moved n rm (leaving n b p (out_port q)) w ws os y ws os' (Some (output_counted t))) (sym ew)
          (moved (output_counted t) refl
          (out_holds (set taken (8 * size n + b.lits q) 1) (output_counted t)
          (recounted (table_store at taken ws t (8 * size n + b.lits q) 1 (omega (arith, low)) taken_table)) refl
          (λ j h. get_or-set_other taken (8 * size n + b.lits q) j 1 0 (λ y. omega (arith, h, y)))
          (λ k h. get_d_set taken (8 * size n + b.lits q) (8 * size n + k) 1 (λ (v : ℕ). v ≡ one (member k (insert b.outs (b.lits q))))
          (omega (arith, low, taken_long, d.table.ready.wide))
          (λ e. let e' : k ≡ b.lits q = omega (arith, e) in sym (ap one (ap (member k) more ∙ ap (λ (y : ℕ). member y (b.outs ++ (b.lits q ∷ []))) e' ∙ member_last (b.lits q) b.outs)))
          (λ ne. marks_old k h ∙ sym (ap one (ap (member k) more ∙ member_other (b.lits q) k b.outs (λ e. ne (ap (λ (y : ℕ). 8 * size n + y) e))))))
          (ap (λ (y : ℕ). y + 1) d.outputs ∙ sym grows) refl refl)
          (record {
            fits = omega (arith, room, grows);
            words = eo ∙ ap (λ (y : List ℕ). set y t.outputs (b.lits q)) ls.words ∙ ap (λ (y : ℕ). set (filled b.outs rm.outputs) y (b.lits q)) d.outputs
                ∙ filled_more b.outs rm.outputs (b.lits q) room ∙ ap (λ (y : List ℕ). filled y rm.outputs) (sym more);
          })
          (length-set taken (8 * size n + b.lits q) 1 ∙ taken_long)))
        where
          recounted : {y : List ℕ} → Table (index_at (size n) rm.pins) y ws t → Table (index_at (size n) rm.pins) y ws (output_counted t)
          recounted h = record { ready = h.ready; gates = h.gates; few = h.few }
