-- The tables of an accepted netlist, in the code's shape.
use mathlib.Core.Path.{◌≡◌, refl, sym, ap, subst, ◌∙◌}
use mathlib.Core.Bool.{Bool, true, false}
use mathlib.Core.List.{List}
use Prim.Native.Nat.{ℕ, ◌+◌, ◌-◌, ◌*◌, ◌≤◌, ◌<◌}
use native.Mathlib.Omega.{arith}
use lib.ListN.{length, get_or, length-append}
use lib.Seq.{ext_get_or}
use Rattle.std.specs.Prelude.{Some, None}
use Rattle.laws.specs.Lists.{flat}
use Rattle.laws.specs.Words.{zeros, filled, part}
use Rattle.laws.proofs.Ranges.{map-upto, length-map-upto}
use Rattle.laws.proofs.Words.{zeros-length, part_length, part_at, filled-length, filled_at}
use Rattle.rules.specs.declared.Rooms.{Rooms}
use Rattle.rules.specs.declared.Tally.{Tally}
use Rattle.rules.specs.Netlist.{Netlist, size}
use Rattle.rules.specs.Tables.{driver_words, record_words, ram_words}
use Rattle.rules.specs.Build.{step2, step3, graph_of, literals_of, fanouts, fanout_starts, tally}
use Rattle.rules.specs.Refusals.{Accepted}
use Rattle.rules.specs.Answers.{BuildTables}
use Rattle.drivers.specs.Written.{Holds}
use Rattle.drivers.proofs.Rows.{drivers_long_lem}
use Rattle.walk.specs.State.{Operands}
use Rattle.builds.proofs.Rows.{dff_count, ram_count}
use Rattle.builds.proofs.Words.{record_words_lem, ram_words_lem}
use Rattle.builds.proofs.Passes12.{built_sound, rows_shaped}
use Rattle.drafts.specs.Table.{Table, drafted}
use Rattle.drafts.specs.Layout.{index_at}
use Rattle.fanouts.specs.Fans.{Fanned}
use Rattle.fanouts.proofs.Passes.{unfanned_starts, unfanned_lists}
use Rattle.results.proofs.Drivers.{holds_filled, holds_operands}
use Rattle.results.proofs.Fans.{fans_fit, fans_starts, fans_lists, fans_no_room}
use Rattle.results.proofs.Rooms as rooms
use Rattle.rules.proofs.Tables.{clash}
use Rattle.ends.specs.Ended.{all_records, all_rows}
use Rattle.draws.specs.Drawing.{Empty, empty, Undrawn, undrawn, Drawn, drawn, no_room}
use Rattle.aig.specs.Building.{lent, lengths_of, blank, asked, Unfinished, unfinished, Finished, finished, too_small}

-- ---- what a table of the rules' words needs
fits_in : (xs : List ℕ) (room : ℕ) → length (filled xs room) ≡ room → length xs ≤ room
fits_in xs room e = omega (arith, e, length-append xs (zeros (room - length xs)), zeros-length (room - length xs))

filled_whole : (xs : List ℕ) (room : ℕ) → length xs ≡ room → filled xs room ≡ xs
filled_whole xs room e = ext_get_or 0 (filled xs room) xs (filled-length xs room (omega (arith, e)) ∙ sym e) (λ i k. filled_at xs room i)

same_lengths : (ws os fs rs ls ss es ws' os' fs' rs' ls' ss' es' : List ℕ) → length ws' ≡ length ws → length os' ≡ length os → length fs' ≡ length fs → length rs' ≡ length rs
    → length ls' ≡ length ls → length ss' ≡ length ss → length es' ≡ length es → lengths_of (lent ws' os' fs' rs' ls' ss' es') 0 ≡ lengths_of (lent ws os fs rs ls ss es) 0
same_lengths ws os fs rs ls ss es ws' os' fs' rs' ls' ss' es' a b c d e f g =
    λ i. record { drivers = a i; outputs = b i; dffs = c i; rams = d i; literals = e i; starts = f i; fanouts = g i; work = 0 }

-- the literals in the work words are those of the rules
all_literals : (n : Netlist) (w : List ℕ) → 8 * size n ≤ length w → ((p : ℕ) → p < size n → get_or w (7 * size n + p) 0 ≡ (step2 n).lits p)
    → part w (7 * size n) (size n) ≡ filled (literals_of n) (size n)
all_literals n w l h = ext_get_or 0 (part w (7 * size n) (size n)) (literals_of n) (long ∙ sym many)
    (λ i k. let low : i < size n = omega (arith, k, long) in
    part_at w (7 * size n) (size n) i low ∙ h i low ∙ sym (map-upto (step2 n).lits 0 (size n) i low))
    ∙ sym (filled_whole (literals_of n) (size n) many)
  where
    long : length (part w (7 * size n) (size n)) ≡ size n
    long = part_length w (7 * size n) (size n) (omega (arith, l))

    many : length (literals_of n) ≡ size n
    many = length-map-upto (step2 n).lits (size n)

-- what drawing leaves that fits
record Whole (n : Netlist) (rm : Rooms) (w ws w' ws' os' fs' rs' : List ℕ) (t : Tally) : Type 0 where
  table : Table (index_at (size n) rm.pins) w' ws' t
  drivers : drafted ws' t ≡ (step3 n).drivers
  outputs : os' ≡ filled (step2 n).outs rm.outputs
  dffs : fs' ≡ filled (all_records n) (3 * rm.dffs)
  rams : rs' ≡ filled (all_rows n) (123 * rm.rams)
  literals : (p : ℕ) → p < size n → get_or w' (7 * size n + p) 0 ≡ (step2 n).lits p
  tallied : t ≡ tally (graph_of n)
  long : length w' ≡ length w
  table_kept : length ws' ≡ length ws

module _ (n : Netlist) (rm : Rooms) (w ws os fs rs ls ss es : List ℕ) (u : Unfinished n rm w (lent ws os fs rs ls ss es)) where
  pub not_drawn : Undrawn n rm w ws os fs rs
  not_drawn = from u
    where
      from : Unfinished n rm w (lent ws os fs rs ls ss es) → Undrawn n rm w ws os fs rs
      from (unfinished e d) = d

  blank_so : lent ws os fs rs ls ss es ≡ blank (asked (size n) rm (length w))
  blank_so = from u
    where
      from : Unfinished n rm w (lent ws os fs rs ls ss es) → lent ws os fs rs ls ss es ≡ blank (asked (size n) rm (length w))
      from (unfinished e d) = e

  long_of : (f : BuildTables → List ℕ) (k : ℕ) → f (blank (asked (size n) rm (length w))) ≡ zeros k → length (f (lent ws os fs rs ls ss es)) ≡ k
  long_of f k e = ap (λ (t : BuildTables). length (f t)) blank_so ∙ ap length e ∙ zeros-length k

  ws_long : length ws ≡ 3 * (rm.pins + 1)
  ws_long = long_of (λ t. t.drivers) (3 * (rm.pins + 1)) refl

  os_long : length os ≡ rm.outputs
  os_long = long_of (λ t. t.outputs) rm.outputs refl

  fs_long : length fs ≡ 3 * rm.dffs
  fs_long = long_of (λ t. t.dffs) (3 * rm.dffs) refl

  rs_long : length rs ≡ 123 * rm.rams
  rs_long = long_of (λ t. t.rams) (123 * rm.rams) refl

  ls_long : length ls ≡ size n
  ls_long = long_of (λ t. t.literals) (size n) refl

  ss_long : length ss ≡ rm.pins + 2
  ss_long = long_of (λ t. t.starts) (rm.pins + 2) refl

  es_long : length es ≡ rm.fanouts
  es_long = long_of (λ t. t.fanouts) rm.fanouts refl

  empty_of : Empty n rm w ws os
  empty_of = from not_drawn
    where
      from : Undrawn n rm w ws os fs rs → Empty n rm w ws os
      from (undrawn e f r c) = e

  acc : Accepted n
  acc = from empty_of
    where
      from : Empty n rm w ws os → Accepted n
      from (empty f a c s z o l) = a

  roomy : (8 * size n + 8 * rm.pins + 1024 ≤ length w) × (rm.pins ≤ 16777215)
  roomy = from empty_of
    where
      from : Empty n rm w ws os → (8 * size n + 8 * rm.pins + 1024 ≤ length w) × (rm.pins ≤ 16777215)
      from (empty f a c s z o l) = (l, s.graph_pins)

  module _ (w₁ ws₁ os₁ fs₁ rs₁ : List ℕ) where
    module _ (t : Tally) (g : Drawn n rm w ws os fs rs w₁ ws₁ os₁ fs₁ rs₁ (Some t)) where
      all : Whole n rm w ws w₁ ws₁ os₁ fs₁ rs₁ t
      all = from g
        where
          from : Drawn n rm w ws os fs rs w₁ ws₁ os₁ fs₁ rs₁ (Some t) → Whole n rm w ws w₁ ws₁ os₁ fs₁ rs₁ t
          from (drawn u y a b c d e f i j k) =
              let q : u ≡ t = cc in
              subst (Whole n rm w ws w₁ ws₁ os₁ fs₁ rs₁) q
              (record { table = a; drivers = b; outputs = c; dffs = d; rams = e; literals = f; tallied = i; long = j; table_kept = k })
          from (no_room y a b c d e f) = let q : Some t ≡ None = y in clash (cc)

      table : Table (index_at (size n) rm.pins) w₁ ws₁ t
      table = all.table

      drivers_are : drafted ws₁ t ≡ (step3 n).drivers
      drivers_are = all.drivers

      work_long_lem : length w₁ ≡ length w
      work_long_lem = all.long

      table_long : length ws₁ ≡ length ws
      table_long = all.table_kept

      held : Holds ws₁ (step3 n).drivers
      held = subst (Holds ws₁) drivers_are table.ready.held

      many : length (step3 n).drivers ≡ t.pins + 1
      many = ap length (sym drivers_are) ∙ drivers_long_lem ws₁ t.pins

      pub finish_operands : Operands ws₁ (t.pins + 1)
      finish_operands = holds_operands ws₁ (step3 n).drivers held t.pins (built_sound n acc) many

      module _ (ls₁ ss₁ es₁ : List ℕ) (fits : Bool) (f : Fanned ws₁ t.pins ss es ss₁ es₁ fits) (lp : ls₁ ≡ part w₁ (7 * length ls) (length ls))
          (lo : length os₁ ≡ length os) (lf : length fs₁ ≡ length fs) (lr : length rs₁ ≡ length rs) where
        literals_long : length ls₁ ≡ length ls
        literals_long = ap length lp ∙ part_length w₁ (7 * length ls) (length ls) (omega (arith, ls_long, work_long_lem, roomy.0))

        pub fill_unlisted : fits ≡ false → Finished n rm w (lent ws os fs rs ls ss es) w₁ (lent ws₁ os₁ fs₁ rs₁ ls₁ ss₁ es₁) None
        fill_unlisted x = too_small refl (rooms.fanouts-over n rm (omega (arith, es_long, fans_no_room ws₁ (step3 n).drivers t.pins held many ss es ss₁ es₁ fits f x)))
            (same_lengths ws os fs rs ls ss es ws₁ os₁ fs₁ rs₁ ls₁ ss₁ es₁ table_long lo lf lr literals_long
            (ap length (unfanned_starts ws₁ t.pins ss es ss₁ es₁ fits f x) ∙ zeros-length (length ss))
            (ap length (unfanned_lists ws₁ t.pins ss es ss₁ es₁ fits f x) ∙ zeros-length (length es)))
            work_long_lem

        pub fill_listed : fits ≡ true → Finished n rm w (lent ws os fs rs ls ss es) w₁ (lent ws₁ os₁ fs₁ rs₁ ls₁ ss₁ es₁) (Some t)
        fill_listed x = done
          where
            listed : ss₁ ≡ filled (fanout_starts (step3 n).drivers) (rm.pins + 2)
            listed = fans_starts ws₁ (step3 n).drivers t.pins held many ss es ss₁ es₁ fits f x ∙ ap (filled (fanout_starts (step3 n).drivers)) ss_long

            fanned : es₁ ≡ filled (fanouts (step3 n).drivers) rm.fanouts
            fanned = fans_lists ws₁ (step3 n).drivers t.pins held many ss es ss₁ es₁ fits f x ∙ ap (filled (fanouts (step3 n).drivers)) es_long

            rows : ws₁ ≡ filled (flat driver_words (step3 n).drivers) (3 * (rm.pins + 1))
            rows = holds_filled ws₁ (step3 n).drivers held ∙ ap (filled (flat driver_words (step3 n).drivers)) (table_long ∙ ws_long)

            done : Finished n rm w (lent ws os fs rs ls ss es) w₁ (lent ws₁ os₁ fs₁ rs₁ ls₁ ss₁ es₁) (Some t)
            done = finished t refl
                (rooms.rooms_fit n rm (omega (arith, many, table.ready.long, table_long, ws_long))
                (fits_in (step2 n).outs rm.outputs (sym (ap length all.outputs) ∙ lo ∙ os_long))
                (omega (arith, fits_in (flat record_words (graph_of n).dffs) (3 * rm.dffs) (sym (ap length all.dffs) ∙ lf ∙ fs_long), record_words_lem (graph_of n).dffs, dff_count n))
                (omega (arith, fits_in (flat ram_words (graph_of n).rams) (123 * rm.rams) (sym (ap length all.rams) ∙ lr ∙ rs_long), ram_words_lem (graph_of n).rams (rows_shaped n acc), ram_count n))
                (omega (arith, es_long, fans_fit ws₁ (step3 n).drivers t.pins held many ss es ss₁ es₁ fits f x)))
                (λ z. lent (rows z) (all.outputs z) (all.dffs z) (all.rams z) (lits z) (listed z) (fanned z))
                all.tallied work_long_lem
              where
                lits : ls₁ ≡ filled (literals_of n) (size n)
                lits = lp ∙ ap (λ (m : ℕ). part w₁ (7 * m) m) ls_long ∙ all_literals n w₁ (omega (arith, work_long_lem, roomy.0)) all.literals
