-- Tallies while a graph is built: what each step adds to the count of gates, and that step 3 makes gates alone.
use mathlib.Core.Path.{◌≡◌, refl, sym, ◌∙◌, ap, subst}
use mathlib.Core.Bool.{Bool}
use mathlib.Core.List.{List, [], ◌∷◌, ◌++◌}
use Prim.Native.Nat.{ℕ, ◌+◌, ◌-◌, ◌≤◌, ◌<◌, min, max}
use native.Mathlib.Omega.{arith}
use lib.ListN.{length, length-append}
use Rattle.laws.specs.Tests.{◌<?◌, one}
use Rattle.laws.specs.Lists.{count, keep, over, upto, first_or}
use Rattle.laws.proofs.Tests.{by_test}
use Rattle.laws.proofs.Bags.{here, there, length-keep, keep_append}
use Rattle.laws.proofs.Ranges.{in_upto}
use Rattle.laws.proofs.Indices.{snoc_length}
use Rattle.rules.specs.declared.Edge.{Edge}
use Rattle.rules.specs.declared.Driver.{Driver}
use Rattle.rules.specs.declared.Driver.TheVariants.{And, Port, Flag, Dff, Ram, Constant}
use Rattle.rules.specs.Netlist.{Netlist, cells, kind_of, Kind, top, and2, inv, buf, dff, clock_gate, ram, unfit, named, named_bit, #D, #CLK, #S, #R, #W_CLK, #W_EN}
use Rattle.rules.specs.Graph.{gate, Made, first_pin, old_or_new, is_pair, and_of, or_not, opposite}
use Rattle.rules.specs.Build.{Walk, still, root, gated, strange, far, walk, clocks_of, is_flag, flag_for, events, step1, start2, Ends, trace, trace_clock, flop_ends, write_end, cell_ends, end_cell, start3, step2, step3, is_gate, gate_count}
use Rattle.builds.proofs.Growing.{Keeps, keeps_trans}
use Rattle.builds.proofs.Sound.{Sound}
use Rattle.builds.proofs.Ands.{and_cases}
use Rattle.builds.proofs.Walks.{trace_grows}
use Rattle.builds.proofs.Ends.{with_ram}
use Rattle.builds.proofs.Sizes.{acts_longer, Flagged, step1_flags, flagged_none, cell_further}

-- ---- one driver more
alone : (d : Driver) → length (keep is_gate (d ∷ [])) ≡ one (is_gate d)
alone (And a b) = refl
alone (Port q) = refl
alone (Flag q e) = refl
alone (Dff c) = refl
alone (Ram c) = refl
alone Constant = refl

pub gates_snoc : (ds : List Driver) (d : Driver) → gate_count (ds ++ (d ∷ [])) ≡ gate_count ds + one (is_gate d)
gates_snoc ds d = ap length (keep_append is_gate ds (d ∷ [])) ∙ length-append (keep is_gate ds) (keep is_gate (d ∷ [])) ∙ ap (λ (k : ℕ). gate_count ds + k) (alone d)

-- pin 0 is no gate
pub gates_fit : (ds : List Driver) → Sound ds → gate_count ds ≤ length ds - 1
gates_fit [] s = absurd (omega (arith, s.start))
gates_fit (d ∷ ds) s = let e : d ≡ Constant = s.first in rw e (omega (arith, length-keep is_gate ds))

-- ---- every pin that is new is a gate: as many gates more as pins
pub record OnlyGates (ds es : List Driver) : Type 0 where
  pub longer : length ds ≤ length es
  pub counted : gate_count es + length ds ≡ gate_count ds + length es

pub only_refl : (ds : List Driver) → OnlyGates ds ds
only_refl ds = record { longer = omega arith; counted = refl }

pub only_trans : {ds es fs : List Driver} → OnlyGates ds es → OnlyGates es fs → OnlyGates ds fs
only_trans g h = record { longer = omega (arith, g.longer, h.longer); counted = omega (arith, g.counted, h.counted) }

new_gate : (t : Driver → Bool) (ds : List Driver) (a b : ℕ) → OnlyGates ds (old_or_new t (gate a b) ds).drivers
new_gate t ds a b = by_test (first_pin t ds <? length ds)
    (λ y. rw y (only_refl ds))
    (λ n. rw n (record { longer = omega (arith, snoc_length ds (gate a b) Constant); counted = omega (arith, snoc_length ds (gate a b) Constant, gates_snoc ds (gate a b)) }))

pub and_only : (ds : List Driver) (a b : ℕ) → OnlyGates ds (and_of ds a b).drivers
and_only ds a b = and_cases (λ m. OnlyGates ds m.drivers) ds a b (λ e. only_refl ds) (λ e. only_refl ds) (λ e. only_refl ds) (λ e. only_refl ds)
    (λ ha hb. new_gate (is_pair (min a b) (max a b)) ds (min a b) (max a b))

pub or_only : (ds : List Driver) (v w : ℕ) → OnlyGates ds (or_not ds v w).drivers
or_only ds v w = and_only ds (opposite v) w

-- a flag is no gate
pub flag_tally : (ds : List Driver) (q : ℕ) (e : Edge) → gate_count (flag_for ds q e).drivers ≡ gate_count ds
flag_tally ds q e = by_test (first_pin (is_flag q e) ds <? length ds) (λ y. rw y) (λ n. rw n (omega (arith, gates_snoc ds (Flag q e))))

-- ---- step 3
trace-only : (lits : ℕ → ℕ) (ds : List Driver) (w : Walk) → Flagged ds w → OnlyGates ds (trace ds lits w).drivers
trace-only lits ds still f = only_refl ds
trace-only lits ds (root q e) f = subst (OnlyGates ds) (sym (flagged_none ds q e f)) (only_refl ds)
trace-only lits ds (gated w e) f = only_trans (trace-only lits ds w f) (and_only (trace ds lits w).drivers (trace ds lits w).lit (lits e))
trace-only lits ds strange f = only_refl ds
trace-only lits ds far f = only_refl ds

module _ (n : Netlist) (lits : ℕ → ℕ) where
  flop_only : (s : Ends) (c : ℕ) → OnlyGates s.drivers (flop_ends n lits s c).drivers
  flop_only s c =
      let d : ℕ = first_or 0 lits (named n c #D) in
      let a : ℕ = first_or 0 s.active (named n c #CLK) in
      let sl : ℕ = first_or 1 lits (named n c #S) in
      let rl : ℕ = first_or 1 lits (named n c #R) in
      let n1 : Made = or_not s.drivers d sl in let e1 : Made = or_not n1.drivers a sl in
      let n2 : Made = and_of e1.drivers n1.lit rl in
      only_trans (or_only s.drivers d sl) (only_trans (or_only n1.drivers a sl) (only_trans (and_only e1.drivers n1.lit rl) (or_only n2.drivers e1.lit rl)))

  writes_only : (c : ℕ) (bs : List ℕ) (s : Ends) → OnlyGates s.drivers (over (write_end n lits c) s bs).drivers
  writes_only c [] s = only_refl s.drivers
  writes_only c (b ∷ bs) s = only_trans (and_only s.drivers (first_or 0 lits (named_bit n c #W_EN b)) (first_or 0 s.active (named n c #W_CLK))) (writes_only c bs (write_end n lits c s b))

  cell_only : (s : Ends) (c : ℕ) (k : Kind) → OnlyGates s.drivers (cell_ends n lits s c k).drivers
  cell_only s c top = only_refl s.drivers
  cell_only s c (and2 x y z) = only_refl s.drivers
  cell_only s c inv = only_refl s.drivers
  cell_only s c buf = only_refl s.drivers
  cell_only s c dff = flop_only s c
  cell_only s c clock_gate = only_refl s.drivers
  cell_only s c ram = writes_only c (upto 32) (with_ram s c)
  cell_only s c unfit = only_refl s.drivers

  -- a cell's clocks, where the flags of step 1 are there
  traces_only : (c : ℕ) → c < cells n → (ps : List ℕ) (s : Ends) → ((p : ℕ) → 0 < count p ps → 0 < count p (clocks_of n c)) → Keeps (step1 n) s.drivers
      → OnlyGates s.drivers (over (trace_clock n lits) s ps).drivers × Keeps (step1 n) (over (trace_clock n lits) s ps).drivers
  traces_only c h [] s f k = (only_refl s.drivers, k)
  traces_only c h (p ∷ ps) s f k =
      let r = traces_only c h ps (trace_clock n lits s p) (λ q m. f q (there q p ps m)) (keeps_trans k (trace_grows lits s.drivers (walk n p)).keeps) in
      (only_trans (trace-only lits s.drivers (walk n p) (step1_flags n c p h (f p (here p ps)) s.drivers k)) r.0, r.1)

  cells-only : (cs : List ℕ) (s : Ends) → ((c : ℕ) → 0 < count c cs → c < cells n) → Keeps (step1 n) s.drivers
      → OnlyGates s.drivers (over (end_cell n lits) s cs).drivers
  cells-only [] s f k = only_refl s.drivers
  cells-only (c ∷ cs) s f k =
      let t : Ends = over (trace_clock n lits) s (clocks_of n c) in
      let r = traces_only c (f c (here c cs)) (clocks_of n c) s (λ p m. m) k in
      only_trans r.0 (only_trans (cell_only t c (kind_of n c))
      (cells-only cs (end_cell n lits s c) (λ x m. f x (there x c cs m)) (keeps_trans r.1 (cell_further n lits t c (kind_of n c)).pins)))

pub step2_keeps : (n : Netlist) → Keeps (step1 n) (step2 n).drivers
unfolding step2
step2_keeps n = (acts_longer n (events n) (start2 (step1 n))).pins

pub step3-only : (n : Netlist) → OnlyGates (step2 n).drivers (step3 n).drivers
unfolding step3
step3-only n = cells-only n (step2 n).lits (upto (cells n)) (start3 (step2 n)) (λ c m. in_upto (cells n) c m) (step2_keeps n)
