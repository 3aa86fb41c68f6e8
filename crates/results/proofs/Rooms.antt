-- The rooms that a netlist's graph needs: what fits, and which part made on the way shows that it does not.
use mathlib.Core.Path.{◌≡◌}
use mathlib.Core.Bool.{true, false}
use mathlib.Core.List.{List, [], ◌∷◌}
use Prim.Native.Nat.{ℕ, zero, suc, ◌+◌, ◌-◌, ◌*◌, ◌<◌, ◌≤◌}
use native.Mathlib.Omega.{arith}
use borrow.Author.Tests.{leb-true, le-leb}
use lib.ListN.{length, take}
use Rattle.laws.specs.Tests.{◌≤?◌}
use Rattle.laws.specs.Lists.{over, upto}
use Rattle.laws.specs.Search.{Event}
use Rattle.laws.proofs.Tests.{by_test}
use Rattle.rules.specs.declared.Rooms.{Rooms}
use Rattle.rules.specs.Netlist.{Netlist, cells}
use Rattle.rules.specs.Build.{Build, events, act, step1, start2, step2, start3, step3, graph_of, gate_count, tally}
use Rattle.rules.specs.Refusals.{room_fits}
use Rattle.rules.proofs.Tables.{five_true}
use Rattle.builds.proofs.Sizes.{Longer, longer_refl, acts_longer, Further, ends_further}
use Rattle.builds.proofs.Tallies.{step2_keeps}
use Rattle.builds.proofs.Rows.{dff_count, ram_count}

-- ---- sizes never fall
pub step3_further : (n : Netlist) → Further (start3 (step2 n)) (step3 n)
unfolding step3
step3_further n = ends_further n (step2 n).lits (upto (cells n)) (start3 (step2 n))

first_longer : (n : Netlist) (es : List Event) (i : ℕ) (s : Build) → Longer (over (act n) s (take i es)) (over (act n) s es)
first_longer n es zero s = acts_longer n es s
first_longer n [] (suc i) s = longer_refl s
first_longer n (e ∷ es) (suc i) s = first_longer n es i (act n s e)

-- what stands after the first i events is there at the end of step 2
pub prefix_longer : (n : Netlist) (i : ℕ) → Longer (over (act n) (start2 (step1 n)) (take i (events n))) (step2 n)
unfolding step2
prefix_longer n i = first_longer n (events n) i (start2 (step1 n))

-- ---- all fits
module _ (n : Netlist) (rm : Rooms) where
  module _ (f : room_fits (tally (graph_of n)) rm ≡ true) where
    abbrev sizes : ((length (step3 n).drivers - 1 ≤? rm.pins) ≡ true) × ((length (step2 n).outs ≤? rm.outputs) ≡ true)
        × ((length (graph_of n).dffs ≤? rm.dffs) ≡ true) × ((length (graph_of n).rams ≤? rm.rams) ≡ true)
        × ((2 * gate_count (step3 n).drivers ≤? rm.fanouts) ≡ true)
    sizes = five_true (length (step3 n).drivers - 1 ≤? rm.pins) (length (step2 n).outs ≤? rm.outputs)
        (length (graph_of n).dffs ≤? rm.dffs) (length (graph_of n).rams ≤? rm.rams) (2 * gate_count (step3 n).drivers ≤? rm.fanouts) f

    pub drivers_room : length (step3 n).drivers ≤ rm.pins + 1
    drivers_room = omega (arith, leb-true (length (step3 n).drivers - 1) rm.pins sizes.0)

    pub outputs_room : length (step2 n).outs ≤ rm.outputs
    outputs_room = leb-true (length (step2 n).outs) rm.outputs sizes.1

    pub dffs_room : length (step2 n).flops ≤ rm.dffs
    dffs_room = omega (arith, leb-true (length (graph_of n).dffs) rm.dffs sizes.2, dff_count n)

    pub rams_room : length (step3 n).rams ≤ rm.rams
    rams_room = omega (arith, leb-true (length (graph_of n).rams) rm.rams sizes.3, ram_count n)

    pub fanouts_room : 2 * gate_count (step3 n).drivers ≤ rm.fanouts
    fanouts_room = leb-true (2 * gate_count (step3 n).drivers) rm.fanouts sizes.4

    -- what an earlier step made
    pub drivers2_room : length (step2 n).drivers ≤ rm.pins + 1
    drivers2_room = omega (arith, drivers_room, (step3_further n).pins.longer)

    pub rams2_room : length (step2 n).rams ≤ rm.rams
    rams2_room = omega (arith, rams_room, (step3_further n).rams)

    pub drivers1_room : length (step1 n) ≤ rm.pins + 1
    drivers1_room = omega (arith, drivers2_room, (step2_keeps n).longer)

  pub rooms_fit : length (step3 n).drivers ≤ rm.pins + 1 → length (step2 n).outs ≤ rm.outputs → length (step2 n).flops ≤ rm.dffs
      → length (step3 n).rams ≤ rm.rams → 2 * gate_count (step3 n).drivers ≤ rm.fanouts → room_fits (tally (graph_of n)) rm ≡ true
  rooms_fit a b c d e = rw (
    le-leb (length (step3 n).drivers - 1) rm.pins (omega arith),
    le-leb (length (step2 n).outs) rm.outputs b,
    le-leb (length (graph_of n).dffs) rm.dffs (omega (arith, dff_count n)),
    le-leb (length (graph_of n).rams) rm.rams (omega (arith, ram_count n)),
    le-leb (2 * gate_count (step3 n).drivers) rm.fanouts e,
  )

  -- ---- what is too large
  fails : (room_fits (tally (graph_of n)) rm ≡ true → ⊥) → room_fits (tally (graph_of n)) rm ≡ false
  fails no-fit = by_test (room_fits (tally (graph_of n)) rm) (λ t. absurd (no-fit t)) (λ f. f)

  pub drivers_over : rm.pins + 1 < length (step3 n).drivers → room_fits (tally (graph_of n)) rm ≡ false
  drivers_over h = fails (λ f. omega (arith, h, drivers_room f))

  pub rams_over : rm.rams < length (step3 n).rams → room_fits (tally (graph_of n)) rm ≡ false
  rams_over h = fails (λ f. omega (arith, h, rams_room f))

  pub fanouts-over : rm.fanouts < 2 * gate_count (step3 n).drivers → room_fits (tally (graph_of n)) rm ≡ false
  fanouts-over h = fails (λ f. omega (arith, h, fanouts_room f))

  pub outputs_over : rm.outputs < length (step2 n).outs → room_fits (tally (graph_of n)) rm ≡ false
  outputs_over h = fails (λ f. omega (arith, h, outputs_room f))

  pub dffs_over : rm.dffs < length (step2 n).flops → room_fits (tally (graph_of n)) rm ≡ false
  dffs_over h = fails (λ f. omega (arith, h, dffs_room f))

  pub drivers2_over : rm.pins + 1 < length (step2 n).drivers → room_fits (tally (graph_of n)) rm ≡ false
  drivers2_over h = fails (λ f. omega (arith, h, drivers2_room f))

  pub rams2_over : rm.rams < length (step2 n).rams → room_fits (tally (graph_of n)) rm ≡ false
  rams2_over h = fails (λ f. omega (arith, h, rams2_room f))

  pub drivers1_over : rm.pins + 1 < length (step1 n) → room_fits (tally (graph_of n)) rm ≡ false
  drivers1_over h = fails (λ f. omega (arith, h, drivers1_room f))

  -- a state on the way through step 2
  module _ (b : Build) (l : Longer b (step2 n)) where
    pub drivers_over_in : rm.pins + 1 < length b.drivers → room_fits (tally (graph_of n)) rm ≡ false
    drivers_over_in h = drivers2_over (omega (arith, h, l.pins.longer))

    pub outputs_over_in : rm.outputs < length b.outs → room_fits (tally (graph_of n)) rm ≡ false
    outputs_over_in h = outputs_over (omega (arith, h, l.outputs))

    pub dffs_over_in : rm.dffs < length b.flops → room_fits (tally (graph_of n)) rm ≡ false
    dffs_over_in h = dffs_over (omega (arith, h, l.dffs))

    pub rams_over_in : rm.rams < length b.rams → room_fits (tally (graph_of n)) rm ≡ false
    rams_over_in h = rams2_over (omega (arith, h, l.rams))

  -- after the first i events
  module _ (i : ℕ) where
    abbrev so_far : Build
    so_far = over (act n) (start2 (step1 n)) (take i (events n))

    pub drivers_over_at : rm.pins + 1 < length so_far.drivers → room_fits (tally (graph_of n)) rm ≡ false
    drivers_over_at h = drivers_over_in so_far (prefix_longer n i) h

    pub outputs_over_at : rm.outputs < length so_far.outs → room_fits (tally (graph_of n)) rm ≡ false
    outputs_over_at h = outputs_over_in so_far (prefix_longer n i) h

    pub dffs_over_at : rm.dffs < length so_far.flops → room_fits (tally (graph_of n)) rm ≡ false
    dffs_over_at h = dffs_over_in so_far (prefix_longer n i) h

    pub rams_over_at : rm.rams < length so_far.rams → room_fits (tally (graph_of n)) rm ≡ false
    rams_over_at h = rams_over_in so_far (prefix_longer n i) h
