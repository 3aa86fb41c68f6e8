-- The loop over all cells, in the code's shape.
use mathlib.Core.Path.{◌≡◌, refl, sym, ap, ap₂, subst, ◌∙◌}
use Rattle.std.specs.Prelude.{Some, None, ◌==◌}
use mathlib.Core.List.{List, [], ◌∷◌, ◌++◌}
use Prim.Native.Nat.{ℕ, zero, suc, ◌+◌, ◌*◌, ◌/◌, ◌%◌, ◌<◌, ◌≤◌}
use native.Mathlib.Numerals.{add-one}
use native.Mathlib.Omega.{arith}
use lib.ListN.{length, get_or}
use borrow.Author.Tests.{ltb-true, ltb-false, eqb-true, eqb-false}
use Rattle.laws.specs.Tests.{◌<?◌}
use Rattle.laws.specs.Lists.{count, first_or}
use Rattle.laws.specs.Words.{SameBelow, zeros, filled}
use Rattle.laws.specs.Sets.{insert}
use Rattle.laws.proofs.Tests.{by_test}
use Rattle.laws.proofs.Indices.{place, place_at, at_in, snoc_length, snoc_at}
use Rattle.laws.proofs.Sets.{insert_old, insert_new, insert-once}
use Rattle.rules.specs.declared.Driver.{Driver}
use Rattle.rules.specs.declared.Literal.{Literal}
use Rattle.rules.specs.declared.Tally.{Tally}
use Rattle.rules.specs.Netlist.{Netlist, size, cells, kind_of, dff, ram, named, #D, #S, #R}
use Rattle.rules.specs.Graph.{Made, no_record, no_ram}
use Rattle.rules.specs.Tables.{record_words, ram_words}
use Rattle.rules.specs.Build.{Ends, step1, step2, step3, record_of, ram_row_of}
use Rattle.rules.specs.Refusals.{Accepted}
use Rattle.rules.proofs.Tables.{clash}
use Rattle.tallies.specs.Counted.{ram_counted}
use Rattle.builds.proofs.Growing.{Keeps, keeps_refl, keeps_trans}
use Rattle.builds.proofs.Rows.{dff_cell, dff_once, dff_has, ram_cell}
use Rattle.roles.specs.Reading.{Fits, kind_at, either_in, cell_pins, entry_of}
use Rattle.drafts.specs.declared.Draft.{Draft}
use Rattle.drafts.specs.Table.{Table, drafted, drivers_of, SameLoans, Adds}
use Rattle.drafts.specs.Layout.{index_at, Written, Flags}
use Rattle.drafts.proofs.Steps.{below_refl, below_trans, Extended}
use Rattle.drafts.proofs.Drafting.{loans_refl, loans_trans}
use Rattle.activity.specs.Traced.{lits, Going, IsGoing, start_at}
use Rattle.activity.proofs.Composing.{step_long, step_short, adds_extended, adds_going}
use Rattle.flops.specs.Flopped.{flop_clock, flop_made, flop_record, FlopDone}
use Rattle.flops.proofs.Flopping.{four_keeps}
use Rattle.memories.specs.Remembered.{reads_first, ram_clocks, clock_at, enable_of, ram_made, ram_word, RowDone, RamDone, begun, fresh, short}
use Rattle.memories.proofs.Remembering.{entry_keeps, turned_keeps, bits_longer, going_more}
use Rattle.ends.specs.Ended.{ends_at, CellDone, flopped, remembered, passed, all_records, all_rows, EndsDone, AddsEnds, done, no_pins, no_rams}
use Rattle.ends.proofs.Tabled.{Rows, rows_begin, rows_skip, rows_write, rows_more, rows_end}
use Rattle.ends.proofs.Cells.{flop_law, ram_drivers}
use Rattle.ends.proofs.Finals.{ends_none, ends_next, ends_last, further_whole, holding, final_record, final-row, row_long, Listed, flop_rams, with_rams, plain-next, listed}

-- ---- what a cell makes keeps what was there
flop_keeps : (n : Netlist) (ds : List Driver) (c : ℕ) → Keeps ds (flop_made n ds c).drivers
flop_keeps n ds c = let k = flop_clock n ds c in
    keeps_trans (entry_keeps n ds (entry_of (either_in n.pins 5 5 (cell_pins n.starts n.list c)) 0))
    (four_keeps k.drivers (first_or 0 (lits n) (named n c #D)) k.lit (first_or 1 (lits n) (named n c #S)) (first_or 1 (lits n) (named n c #R)))

ram_keeps : (n : Netlist) (ds : List Driver) (c : ℕ) → Keeps ds (ram_made n ds c 32).drivers
ram_keeps n ds c = keeps_trans (turned_keeps n ds c (reads_first n.pins (clock_at n c 0)))
    (bits_longer (ram_clocks n ds c).drivers (ram_clocks n ds c).second (enable_of n c) 0 32 (omega arith))

-- ---- the rows of the two tables, by the drivers that each cell began with
abbrev record_row : Netlist → ℕ → ℕ → ℕ
record_row n c j = get_or (record_words (flop_record n (ends_at n c).drivers c)) j 0

abbrev ram_row : Netlist → ℕ → ℕ → ℕ
ram_row n c j = ram_word n (ends_at n c).drivers c j

pub record Ending (n : Netlist) (draft₀ : Draft) (dffs₀ rams₀ : List ℕ) (draft : Draft) (dffs rams : List ℕ) (i : ℕ) : Type 0 where
  pub inside : i ≤ cells n
  pub loans : SameLoans draft₀ draft
  pub going : IsGoing n draft
  pub drivers : drivers_of draft ≡ (ends_at n i).drivers
  pub below : SameBelow draft₀.at draft₀.work.now draft.work.now
  pub drivers_long : length draft.drivers.now ≡ length draft₀.drivers.now
  pub outputs_same : draft.tally.outputs ≡ draft₀.tally.outputs
  pub dffs_same : draft.tally.dffs ≡ draft₀.tally.dffs
  pub rams_count : draft.tally.rams ≡ length (ends_at n i).rams
  pub records : Rows 3 (step2 n).flops (record_row n) i dffs
  pub rows : Rows 123 (ends_at n i).rams (ram_row n) i rams
  pub rams_begun : length (step2 n).rams ≤ draft.tally.rams
  pub rams_room : 123 * draft.tally.rams ≤ length rams

pub ending_begins : (n : Netlist) (draft : Draft) (dffs rams : List ℕ) → IsGoing n draft → drivers_of draft ≡ (step2 n).drivers → draft.tally.rams ≡ length (step2 n).rams
    → dffs ≡ zeros (length dffs) → 3 * length (step2 n).flops ≤ length dffs → rams ≡ zeros (length rams) → 123 * draft.tally.rams ≤ length rams
    → Ending n draft dffs rams draft dffs rams 0
ending_begins n draft dffs rams g ed er zd ld zr lr = record {
  inside = omega arith;
  loans = loans_refl draft;
  going = g;
  drivers = ed ∙ sym (ap (λ (e : Ends). e.drivers) (ends_none n));
  below = below_refl draft.at draft.work.now;
  drivers_long = refl;
  outputs_same = refl;
  dffs_same = refl;
  rams_count = er ∙ sym (ap (λ (e : Ends). length e.rams) (ends_none n));
  records = rows_begin 3 (step2 n).flops (record_row n) dffs zd ld;
  rows = subst (λ (l : List ℕ). Rows 123 l (ram_row n) 0 rams) (sym (ap (λ (e : Ends). e.rams) (ends_none n))) (rows_begin 123 (step2 n).rams (ram_row n) rams zr (omega (arith, lr, er)));
  rams_begun = omega (arith, er);
  rams_room = lr;
}

module _ (n : Netlist) (draft₀ : Draft) (dffs₀ rams₀ : List ℕ) (draft : Draft) (dffs rams : List ℕ) (i : ℕ) (h : Ending n draft₀ dffs₀ rams₀ draft dffs rams i) where
  abbrev acc : Accepted n
  acc = h.going.grounded.accepted

  -- ---- all cells are done
  pub ending_ends : cells n ≤ i → length dffs ≡ length dffs₀ → length rams ≡ length rams₀ → AddsEnds n draft₀ dffs₀ rams₀ draft dffs rams (Some tt)
  ending_ends l ld lr = record { loans = h.loans; ends = ended }
    where
      whole : ends_at n i ≡ step3 n
      whole = let e : i ≡ cells n = omega (arith, l, h.inside) in ap (ends_at n) e ∙ ends_last n

      table : Table draft₀.at draft.work.now draft.drivers.now draft.tally
      table = subst (λ (j : ℕ). Table j draft.work.now draft.drivers.now draft.tally) h.loans.place h.going.table

      ended : EndsDone n draft₀.at draft₀.work.now draft₀.drivers.now draft₀.tally dffs₀ rams₀ draft.work.now draft.drivers.now dffs rams (Some draft.tally)
      ended = done draft.tally refl table (h.drivers ∙ ap (λ (e : Ends). e.drivers) whole) h.outputs_same h.dffs_same (h.rams_count ∙ ap (λ (e : Ends). length e.rams) whole) h.below h.drivers_long
          (rows_end 3 (step2 n).flops (record_row n) i dffs h.records record_words (record_of (step2 n) (step3 n)) no_record
          (λ c m. omega (arith, l, (dff_cell n acc c m).0))
          (λ c m. refl)
          (λ c j m b. ap (λ x. get_or (record_words x) j 0) (sym (final_record n acc c (dff_cell n acc c m).0 (dff_cell n acc c m).1)))
          (λ j b. (j / 3, j % 3, omega (arith, b), omega arith, omega arith))
          ∙ ap (filled (all_records n)) ld)
          (rows_end 123 (step3 n).rams (ram_row n) i rams (subst (λ (x : List ℕ). Rows 123 x (ram_row n) i rams) (ap (λ (e : Ends). e.rams) whole) h.rows) ram_words (ram_row_of n (step2 n) (step3 n)) no_ram
          (λ c m. omega (arith, l, (ram_cell n acc c m).0))
          (λ c m. let k = ram_cell n acc c m in row_long n acc c k.0 k.1)
          (λ c j m b. let k = ram_cell n acc c m in final-row n acc c k.0 k.1 j b)
          (λ j b. (j / 123, j % 123, omega (arith, b), omega arith, omega arith))
          ∙ ap (filled (all_rows n)) lr)

  module _ (l : i < cells n) where
    abbrev s : Ends
    s = ends_at n i

    -- ---- cells that are in no table, and what is needed in the end
    no_flop : (kind_of n i ≡ dff → ⊥) → count i (step2 n).flops ≡ 0
    no_flop nd = by_test (0 <? count i (step2 n).flops) (λ y. absurd (nd (dff_cell n acc i (ltb-true 0 (count i (step2 n).flops) y)).1))
        (λ f. omega (arith, ltb-false 0 (count i (step2 n).flops) f))

    no_ram_lem : (kind_of n i ≡ ram → ⊥) → count i s.rams ≡ 0
    no_ram_lem nr = by_test (0 <? count i s.rams) (λ y. absurd (nr ((holding n acc i h.inside).ram_only i (ltb-true 0 (count i s.rams) y)).1))
        (λ f. omega (arith, ltb-false 0 (count i s.rams) f))

    flop_drivers : kind_of n i ≡ dff → (flop_made n (drivers_of draft) i).drivers ≡ (ends_at n (suc i)).drivers
    flop_drivers k = ap (λ (ds : List Driver). (flop_made n ds i).drivers) h.drivers ∙ sym (ap (λ (e : Ends). e.drivers) (ends_next n i ∙ flop_law n acc s i l k))

    memory_drivers : kind_of n i ≡ ram → (ram_made n (drivers_of draft) i 32).drivers ≡ (ends_at n (suc i)).drivers
    memory_drivers k = ap (λ (ds : List Driver). (ram_made n ds i 32).drivers) h.drivers ∙ sym (ap (λ (e : Ends). e.drivers) (ends_next n i) ∙ ram_drivers n acc s i l k)

    needs_pins : (ds : List Driver) → ds ≡ (ends_at n (suc i)).drivers → length draft.drivers.now < 3 * length ds → length draft.drivers.now < 3 * length (step3 n).drivers
    needs_pins ds e b = omega (arith, b, ap length e, (further_whole n (suc i) (omega (arith, l))).pins.longer)

    module _ (draft' : Draft) (dffs' rams' : List ℕ) (r : Literal) where
      -- ---- it goes on
      abbrev Next : Type 0
      Next = Ending n draft₀ dffs₀ rams₀ draft' dffs' rams' (suc i)

      flop_next_lem : kind_of n i ≡ dff → FlopDone n i draft dffs draft' dffs' (Some r) → rams' ≡ rams → Next
      flop_next_lem k d er = record {
        inside = omega (arith, l);
        loans = loans_trans h.loans d.step.loans;
        going = adds_going m draft draft' r d.step n h.going (flop_keeps n (drivers_of draft) i);
        drivers = e.drivers ∙ flop_drivers k;
        below = below_trans h.below (subst (λ (j : ℕ). SameBelow j draft.work.now draft'.work.now) h.loans.place e.below);
        drivers_long = e.long ∙ h.drivers_long;
        outputs_same = e.ends.outputs ∙ h.outputs_same;
        dffs_same = e.ends.dffs ∙ h.dffs_same;
        rams_count = e.ends.rams ∙ h.rams_count ∙ ap length (sym (flop_rams n acc i l k));
        records = rows_write 3 (step2 n).flops (record_row n) i dffs h.records (dff_once n acc) (place i (step2 n).flops) at_place.0 at_place.1
            (λ j. get_or (record_words (flop_record n (drivers_of draft) i)) j 0) (λ j b. ap (λ (ds : List Driver). get_or (record_words (flop_record n ds i)) j 0) h.drivers) dffs' d.row;
        rows = subst (λ (x : List ℕ). Rows 123 x (ram_row n) (suc i) rams') (sym (flop_rams n acc i l k))
            (subst (Rows 123 s.rams (ram_row n) (suc i)) (sym er) (rows_skip 123 s.rams (ram_row n) i rams h.rows (no_ram_lem (λ k'. clash (cc)))));
        rams_begun = omega (arith, e.ends.rams, h.rams_begun);
        rams_room = omega (arith, e.ends.rams, h.rams_room, ap length er);
      }
        where
          m : Made
          m = start_at (flop_made n (drivers_of draft) i).drivers (flop_made n (drivers_of draft) i).second

          e : Extended draft.at m draft.work.now draft.drivers.now draft.tally draft'.work.now draft'.drivers.now (record { lit = r; tally = draft'.tally })
          e = adds_extended m draft draft' r d.step

          at_place : (place i (step2 n).flops < length (step2 n).flops) × (get_or (step2 n).flops (place i (step2 n).flops) 0 ≡ i)
          at_place = place_at i (step2 n).flops (omega (arith, dff_has n acc i l k))

      plain_next' : (kind_of n i ≡ dff → ⊥) → (kind_of n i ≡ ram → ⊥) → draft' ≡ draft → dffs' ≡ dffs → rams' ≡ rams → Next
      plain_next' nd nr e ed er = subst (λ (x : Draft). Ending n draft₀ dffs₀ rams₀ x dffs' rams' (suc i)) (sym e) (record {
        inside = omega (arith, l);
        loans = h.loans;
        going = h.going;
        drivers = h.drivers ∙ sym (ap (λ (x : Ends). x.drivers) (plain-next n acc i l nd nr));
        below = h.below;
        drivers_long = h.drivers_long;
        outputs_same = h.outputs_same;
        dffs_same = h.dffs_same;
        rams_count = h.rams_count ∙ ap (λ (x : Ends). length x.rams) (sym (plain-next n acc i l nd nr));
        records = subst (Rows 3 (step2 n).flops (record_row n) (suc i)) (sym ed) (rows_skip 3 (step2 n).flops (record_row n) i dffs h.records (no_flop nd));
        rows = subst (λ (x : List ℕ). Rows 123 x (ram_row n) (suc i) rams') (sym (ap (λ (x : Ends). x.rams) (plain-next n acc i l nd nr)))
            (subst (Rows 123 s.rams (ram_row n) (suc i)) (sym er) (rows_skip 123 s.rams (ram_row n) i rams h.rows (no_ram_lem nr)));
        rams_begun = h.rams_begun;
        rams_room = omega (arith, h.rams_room, ap length er);
      })

      -- a RAM, its row at k of the list that it is then in
      row_next : kind_of n i ≡ ram → (t : Tally) → IsGoing n (record draft { tally = t }) → drafted draft.drivers.now t ≡ s.drivers
          → t.outputs ≡ draft₀.tally.outputs → t.dffs ≡ draft₀.tally.dffs → t.rams ≡ length (insert s.rams i)
          → length (step2 n).rams ≤ t.rams → (k : ℕ) → k < length (insert s.rams i) → get_or (insert s.rams i) k 0 ≡ i → Rows 123 (insert s.rams i) (ram_row n) i rams
          → RowDone n i k (record draft { tally = t }) rams draft' rams' (Some r) → dffs' ≡ dffs → Next
      row_next kd t g ed eo ef er lb k lk ek rows d edf = record {
        inside = omega (arith, l);
        loans = let u = d.step.loans in record { drivers = u.drivers ∙ h.loans.drivers; work = u.work ∙ h.loans.work; place = u.place ∙ h.loans.place };
        going = adds_going m from draft' r d.step n g (ram_keeps n (drivers_of from) i);
        drivers = e.drivers ∙ ap (λ (ds : List Driver). (ram_made n ds i 32).drivers) ed
            ∙ sym (ap (λ (x : Ends). x.drivers) (ends_next n i) ∙ ram_drivers n acc s i l kd);
        below = below_trans h.below (subst (λ (j : ℕ). SameBelow j draft.work.now draft'.work.now) h.loans.place e.below);
        drivers_long = e.long ∙ h.drivers_long;
        outputs_same = e.ends.outputs ∙ eo;
        dffs_same = e.ends.dffs ∙ ef;
        rams_count = e.ends.rams ∙ er ∙ ap length (sym (with_rams n acc i l kd));
        records = subst (Rows 3 (step2 n).flops (record_row n) (suc i)) (sym edf) (rows_skip 3 (step2 n).flops (record_row n) i dffs h.records (no_flop (λ k'. clash (cc))));
        rows = subst (λ (x : List ℕ). Rows 123 x (ram_row n) (suc i) rams') (sym (with_rams n acc i l kd)) written;
        rams_begun = omega (arith, e.ends.rams, lb);
        rams_room = omega (arith, e.ends.rams, er, written.room);
      }
        where
          from : Draft
          from = record draft { tally = t }

          m : Made
          m = ram_made n (drivers_of from) i 32

          e : Extended draft.at m draft.work.now draft.drivers.now t draft'.work.now draft'.drivers.now (record { lit = r; tally = draft'.tally })
          e = adds_extended m from draft' r d.step

          once : (x : ℕ) → count x (insert s.rams i) ≤ 1
          once x = insert-once s.rams i x (holding n acc i h.inside).ram_once

          written : Rows 123 (insert s.rams i) (ram_row n) (suc i) rams'
          written = rows_write 123 (insert s.rams i) (ram_row n) i rams rows once k lk ek (ram_word n (drivers_of from) i) (λ j b. ap (λ (ds : List Driver). ram_word n ds i j) ed) rams' d.row

      memory_next : kind_of n i ≡ ram → RamDone n i draft rams draft' rams' (Some r) → dffs' ≡ dffs → Next
      memory_next k (begun m d) ed = row_next k draft.tally h.going h.drivers h.outputs_same h.dffs_same (h.rams_count ∙ ap length (sym same)) h.rams_begun
          p (omega (arith, found.0, ls.longer, ap length same)) (ap (λ (x : List ℕ). get_or x p 0) same ∙ stands) (subst (λ (x : List ℕ). Rows 123 x (ram_row n) i rams) (sym same) h.rows) d ed
        where
          ls : Listed n acc i s.rams
          ls = listed n acc i h.inside

          p : ℕ
          p = place i (step2 n).rams

          found : (p < length (step2 n).rams) × (get_or (step2 n).rams p 0 ≡ i)
          found = place_at i (step2 n).rams m

          stands : get_or s.rams p 0 ≡ i
          stands = ls.kept p found.0 ∙ found.1

          same : insert s.rams i ≡ s.rams
          same = insert_old s.rams i (subst (λ (x : ℕ). 0 < count x s.rams) stands (at_in s.rams p (omega (arith, found.0, ls.longer))))
      memory_next k (fresh z room d) ed = row_next k (ram_counted draft.tally) (going_more n draft (ram_counted draft.tally) h.going refl) h.drivers h.outputs_same h.dffs_same
          (omega (arith, h.rams_count, ap length more, snoc_length s.rams i 0)) (omega (arith, h.rams_begun)) draft.tally.rams (omega (arith, h.rams_count, ap length more, snoc_length s.rams i 0))
          (ap₂ (λ (x : List ℕ) (j : ℕ). get_or x j 0) more h.rams_count ∙ snoc_at s.rams i 0)
          (subst (λ (x : List ℕ). Rows 123 x (ram_row n) i rams) (sym more) (rows_more 123 s.rams (ram_row n) i rams h.rows i (omega arith) (omega (arith, room, h.rams_count)))) d ed
        where
          more : insert s.rams i ≡ s.rams ++ (i ∷ [])
          more = insert_new s.rams i ((listed n acc i h.inside).new i z (omega arith))
      memory_next k (short z b f u x y v) ed = let z' : Some r ≡ None = f in clash (cc)

      next_by : CellDone n i draft dffs rams draft' dffs' rams' (Some r) → Next
      next_by (flopped k d er) = flop_next_lem k d er
      next_by (remembered k d ed) = memory_next k d ed
      next_by (passed nd nr a e same ed er) = plain_next' nd nr same ed er

      pub ending_goes_on : CellDone n i draft dffs rams draft' dffs' rams' (Some r) → Ending n draft₀ dffs₀ rams₀ draft' dffs' rams' (i + 1)
      ending_goes_on d = subst (λ (x : ℕ). Ending n draft₀ dffs₀ rams₀ draft' dffs' rams' x) (sym (add-one i)) (next_by d)

    -- ---- it does not fit
    module _ (draft' : Draft) (dffs' rams' : List ℕ) (ld : length dffs ≡ length dffs₀) (lr : length rams ≡ length rams₀) where
      pins_out : (m : Made) (t : Tally) → Adds m (record draft { tally = t }) draft' None → m.drivers ≡ (ends_at n (suc i)).drivers → length dffs' ≡ length dffs → length rams' ≡ length rams
          → AddsEnds n draft₀ dffs₀ rams₀ draft' dffs' rams' None
      pins_out m t x em l1 l2 = let g = step_long draft.at m draft.work.now draft.drivers.now t draft'.work.now draft'.drivers.now None x.extends in record {
        loans = record { drivers = x.loans.drivers ∙ h.loans.drivers; work = x.loans.work ∙ h.loans.work; place = x.loans.place ∙ h.loans.place };
        ends = no_pins refl
            (omega (arith, needs_pins m.drivers em (step_short draft.at m draft.work.now draft.drivers.now t draft'.work.now draft'.drivers.now x.extends), h.drivers_long))
            (g.0 ∙ h.below.long) (g.1 ∙ h.drivers_long) (l1 ∙ ld) (l2 ∙ lr);
      }

      memory_fails : kind_of n i ≡ ram → RamDone n i draft rams draft' rams' None → dffs' ≡ dffs → AddsEnds n draft₀ dffs₀ rams₀ draft' dffs' rams' None
      memory_fails k (begun m d) ed = pins_out (ram_made n (drivers_of draft) i 32) draft.tally d.step (memory_drivers k) (ap length ed) d.long
      memory_fails k (fresh z room d) ed = pins_out (ram_made n (drivers_of draft) i 32) (ram_counted draft.tally) d.step (memory_drivers k) (ap length ed) d.long
      memory_fails k (short z b f u x y v) ed = record {
        loans = loans_trans h.loans u;
        ends = no_rams refl
            (omega (
              arith,
              b,
              lr,
              h.rams_count,
              ap length (with_rams n acc i l k),
              ap length (insert_new s.rams i ((listed n acc i h.inside).new i z (omega arith))),
              snoc_length s.rams i 0,
              (further_whole n (suc i) (omega (arith, l))).rams,
            ))
            (x ∙ h.below.long) (y ∙ h.drivers_long) (ap length ed ∙ ld) (v ∙ lr);
      }

      pub ending_fails : CellDone n i draft dffs rams draft' dffs' rams' None → AddsEnds n draft₀ dffs₀ rams₀ draft' dffs' rams' None
      ending_fails (flopped k d er) = pins_out (start_at (flop_made n (drivers_of draft) i).drivers (flop_made n (drivers_of draft) i).second) draft.tally d.step (flop_drivers k) d.long (ap length er)
      ending_fails (remembered k d ed) = memory_fails k d ed
      ending_fails (passed nd nr a e same ed er) = let z : None ≡ Some a = e in clash (cc)

-- ---- one cell, by its kind
kind_none : (k : ℕ) → (k ≡ 8 → ⊥) → (k ≡ 9 → ⊥) → (k ≡ 11 → ⊥) → (kind_at k ≡ dff → ⊥) × (kind_at k ≡ ram → ⊥)
kind_none zero a b c = (λ e. clash (cc), λ e. clash (cc))
kind_none (suc zero) a b c = (λ e. clash (cc), λ e. clash (cc))
kind_none (suc (suc zero)) a b c = (λ e. clash (cc), λ e. clash (cc))
kind_none (suc (suc (suc zero))) a b c = (λ e. clash (cc), λ e. clash (cc))
kind_none (suc (suc (suc (suc zero)))) a b c = (λ e. clash (cc), λ e. clash (cc))
kind_none (suc (suc (suc (suc (suc zero))))) a b c = (λ e. clash (cc), λ e. clash (cc))
kind_none (suc (suc (suc (suc (suc (suc zero)))))) a b c = (λ e. clash (cc), λ e. clash (cc))
kind_none (suc (suc (suc (suc (suc (suc (suc zero))))))) a b c = (λ e. clash (cc), λ e. clash (cc))
kind_none (suc (suc (suc (suc (suc (suc (suc (suc zero)))))))) a b c = absurd (a refl)
kind_none (suc (suc (suc (suc (suc (suc (suc (suc (suc zero))))))))) a b c = absurd (b refl)
kind_none (suc (suc (suc (suc (suc (suc (suc (suc (suc (suc zero)))))))))) a b c = (λ e. clash (cc), λ e. clash (cc))
kind_none (suc (suc (suc (suc (suc (suc (suc (suc (suc (suc (suc zero))))))))))) a b c = absurd (c refl)
kind_none (suc (suc (suc (suc (suc (suc (suc (suc (suc (suc (suc (suc zero)))))))))))) a b c = (λ e. clash (cc), λ e. clash (cc))
kind_none (suc (suc (suc (suc (suc (suc (suc (suc (suc (suc (suc (suc (suc k))))))))))))) a b c = (λ e. clash (cc), λ e. clash (cc))

module _ (n : Netlist) (c : ℕ) where
  -- DFF and DFFSR
  pub kind_dff : 8 ≤ get_or n.kinds c 0 → get_or n.kinds c 0 < 10 → kind_of n c ≡ dff
  kind_dff a b = by_test (get_or n.kinds c 0 == 8) (λ y. ap kind_at (eqb-true (get_or n.kinds c 0) 8 y))
      (λ f. let e : get_or n.kinds c 0 ≡ 9 = omega (arith, a, b, eqb-false (get_or n.kinds c 0) 8 f) in ap kind_at e)

  pub kind_ram : get_or n.kinds c 0 ≡ 11 → kind_of n c ≡ ram
  kind_ram e = ap kind_at e

pub cell_passed : (n : Netlist) (c : ℕ) (d : Draft) (dffs rams : List ℕ) (l : Literal) → (get_or n.kinds c 0 ≡ 8 → ⊥) → (get_or n.kinds c 0 ≡ 9 → ⊥) → (get_or n.kinds c 0 ≡ 11 → ⊥)
    → CellDone n c d dffs rams d dffs rams (Some l)
cell_passed n c d dffs rams l a b e = let k = kind_none (get_or n.kinds c 0) a b e in passed k.0 k.1 l refl refl refl refl

-- ---- the state that steps 1 and 2 leave, with room for r graph pins
pub going_begins : (n : Netlist) (r : ℕ) (w ws : List ℕ) (t : Tally) → Accepted n → Fits n → 8 * size n + 8 * r + 1024 ≤ length w → Table (index_at (size n) r) w ws t → drafted ws t ≡ (step2 n).drivers
    → Written n w (step2 n) → Flags (size n) w (step1 n) → Going n (index_at (size n) r) w ws t
going_begins n r w ws t acc fits l table e written flags = record {
  grounded = record { accepted = acc; fits = fits; below = omega arith; inside = omega (arith, l); written = written; flags = flags };
  table = table;
  keeps = subst (Keeps (step2 n).drivers) (sym e) (keeps_refl (step2 n).drivers);
}
