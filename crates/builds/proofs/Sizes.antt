-- Sizes never fall while a graph is built, so that room may be tested as soon as something is made; and step 3 makes no flag.
use mathlib.Core.Path.{◌≡◌, sym, subst}
use mathlib.Core.List.{List, [], ◌∷◌, ◌++◌}
use Prim.Native.Nat.{ℕ, ◌*◌, ◌≤◌, ◌<◌}
use native.Mathlib.Omega.{arith}
use lib.ListN.{length}
use borrow.Author.Tests.{ltb-true, ltb-false}
use Rattle.laws.specs.Tests.{◌<?◌}
use Rattle.laws.specs.Lists.{count, over, upto, first_or}
use Rattle.laws.specs.Search.{Event}
use Rattle.laws.specs.Search.Event.{enter, leave}
use Rattle.laws.proofs.Tests.{by_test, true≢false}
use Rattle.laws.proofs.Bags.{at_head, in_flat}
use Rattle.laws.proofs.Sets.{insert-longer}
use Rattle.laws.proofs.Ranges.{upto_in}
use Rattle.laws.proofs.Indices.{snoc_length, snoc_at}
use Rattle.rules.specs.declared.Edge.{Edge}
use Rattle.rules.specs.declared.Driver.{Driver}
use Rattle.rules.specs.declared.Driver.TheVariants.{Port, Flag, Dff, Ram, Constant}
use Rattle.rules.specs.Netlist.{Netlist, cells, kind_of, Kind, top, and2, inv, buf, dff, clock_gate, ram, unfit, named, named_bit, #D, #CLK, #S, #R, #W_CLK, #W_EN}
use Rattle.rules.specs.Graph.{opposite_if, driver_at, Made, first_pin, and_of, or_not}
use Rattle.rules.specs.Build.{Role, tied, wire, out_port, in_port, and_out, inv_out, buf_out, gate_out, dff_out, ram_out, nothing, role, Walk, still, root, gated, strange, far, walk, clocks, clocks_of, is_flag, flag_for, flag_of, step1, Build, with_lit, entering, leaving, act, Ends, trace_clock, flop_ends, write_end, ram_ends, cell_ends, end_cell}
use Rattle.builds.proofs.Growing.{Keeps, keeps_refl, keeps_trans, snoc_keeps}
use Rattle.builds.proofs.Ands.{first_none, known_stays, known_same, flag_self, flag_only, and_keeps, or_grows}
use Rattle.builds.proofs.Walks.{trace_grows}
use Rattle.builds.proofs.Steps.{flag_of_grows}
use Rattle.builds.proofs.Ends.{with_ram}

-- ---- step 2
pub record Longer (s t : Build) : Type 0 where
  pub pins : Keeps s.drivers t.drivers
  pub outputs : length s.outs ≤ length t.outs
  pub dffs : length s.flops ≤ length t.flops
  pub rams : length s.rams ≤ length t.rams

pub longer_refl : (s : Build) → Longer s s
longer_refl s = record { pins = keeps_refl s.drivers; outputs = omega arith; dffs = omega arith; rams = omega arith }

pub longer_trans : {s t u : Build} → Longer s t → Longer t u → Longer s u
longer_trans a b = record {
  pins = keeps_trans a.pins b.pins;
  outputs = omega (arith, a.outputs, b.outputs);
  dffs = omega (arith, a.dffs, b.dffs);
  rams = omega (arith, a.rams, b.rams);
}

-- only drivers and a literal change
quiet : (s : Build) (p l : ℕ) (ds : List Driver) → Keeps s.drivers ds → Longer s (with_lit s p ds l)
quiet s p l ds k = record { pins = k; outputs = omega arith; dffs = omega arith; rams = omega arith }

pub enter_longer : (s : Build) (r : Role) → Longer s (entering s r)
enter_longer s (tied b) = longer_refl s
enter_longer s (wire q) = longer_refl s
enter_longer s (out_port q) = longer_refl s
enter_longer s in_port = longer_refl s
enter_longer s (and_out x y z a b) = longer_refl s
enter_longer s (inv_out a) = longer_refl s
enter_longer s (buf_out a) = longer_refl s
enter_longer s (gate_out cp e) = longer_refl s
enter_longer s (dff_out c) = record { pins = snoc_keeps s.drivers (Dff c); outputs = omega arith; dffs = insert-longer s.flops c; rams = omega arith }
enter_longer s (ram_out c b) = longer_refl s
enter_longer s nothing = longer_refl s

pub leave_longer : (n : Netlist) (s : Build) (p : ℕ) (r : Role) → Longer s (leaving n s p r)
leave_longer n s p (tied b) = quiet s p _ s.drivers (keeps_refl s.drivers)
leave_longer n s p (wire q) = quiet s p _ s.drivers (keeps_refl s.drivers)
leave_longer n s p (out_port q) = record { pins = keeps_refl s.drivers; outputs = insert-longer s.outs (s.lits q); dffs = omega arith; rams = omega arith }
leave_longer n s p in_port = quiet s p _ (s.drivers ++ (Port p ∷ [])) (snoc_keeps s.drivers (Port p))
leave_longer n s p (and_out x y z a b) = quiet s p _ _ (and_keeps s.drivers (opposite_if x (s.lits a)) (opposite_if y (s.lits b)))
leave_longer n s p (inv_out a) = quiet s p _ s.drivers (keeps_refl s.drivers)
leave_longer n s p (buf_out a) = quiet s p _ s.drivers (keeps_refl s.drivers)
leave_longer n s p (gate_out cp e) = quiet s p _ s.drivers (keeps_refl s.drivers)
leave_longer n s p (dff_out c) =
    let sl : ℕ = first_or 1 s.lits (named n c #S) in
    let m : Made = or_not s.drivers (2 * s.flop_pin c) sl in
    quiet s p _ _ (keeps_trans (or_grows s.drivers (2 * s.flop_pin c) sl).keeps (and_keeps m.drivers m.lit (first_or 1 s.lits (named n c #R))))
leave_longer n s p (ram_out c b) = record { pins = snoc_keeps s.drivers (Ram c); outputs = omega arith; dffs = omega arith; rams = insert-longer s.rams c }
leave_longer n s p nothing = quiet s p _ s.drivers (keeps_refl s.drivers)

pub act-longer : (n : Netlist) (s : Build) (e : Event) → Longer s (act n s e)
act-longer n s (enter p) = enter_longer s (role n p)
act-longer n s (leave p) = leave_longer n s p (role n p)

pub acts_longer : (n : Netlist) (es : List Event) (s : Build) → Longer s (over (act n) s es)
acts_longer n [] s = longer_refl s
acts_longer n (e ∷ es) s = longer_trans (act-longer n s e) (acts_longer n es (act n s e))

-- ---- step 3
pub record Further (s t : Ends) : Type 0 where
  pub pins : Keeps s.drivers t.drivers
  pub rams : length s.rams ≤ length t.rams

further_refl : (s : Ends) → Further s s
further_refl s = record { pins = keeps_refl s.drivers; rams = omega arith }

pub further_trans : {s t u : Ends} → Further s t → Further t u → Further s u
further_trans a b = record { pins = keeps_trans a.pins b.pins; rams = omega (arith, a.rams, b.rams) }

module _ (n : Netlist) (lits : ℕ → ℕ) where
  further_over : (h : Ends → ℕ → Ends) → ((s : Ends) (u : ℕ) → Further s (h s u)) → (us : List ℕ) (s : Ends) → Further s (over h s us)
  further_over h f [] s = further_refl s
  further_over h f (u ∷ us) s = further_trans (f s u) (further_over h f us (h s u))

  pub trace_further : (s : Ends) (p : ℕ) → Further s (trace_clock n lits s p)
  trace_further s p = record { pins = (trace_grows lits s.drivers (walk n p)).keeps; rams = omega arith }

  pub flop_further : (s : Ends) (c : ℕ) → Further s (flop_ends n lits s c)
  flop_further s c =
      let d : ℕ = first_or 0 lits (named n c #D) in
      let a : ℕ = first_or 0 s.active (named n c #CLK) in
      let sl : ℕ = first_or 1 lits (named n c #S) in
      let rl : ℕ = first_or 1 lits (named n c #R) in
      let n1 : Made = or_not s.drivers d sl in let e1 : Made = or_not n1.drivers a sl in
      let n2 : Made = and_of e1.drivers n1.lit rl in
      record {
        pins = keeps_trans (or_grows s.drivers d sl).keeps (keeps_trans (or_grows n1.drivers a sl).keeps
            (keeps_trans (and_keeps e1.drivers n1.lit rl) (or_grows n2.drivers e1.lit rl).keeps));
        rams = omega arith;
      }

  pub write_further : (c : ℕ) (s : Ends) (i : ℕ) → Further s (write_end n lits c s i)
  write_further c s i = record { pins = and_keeps s.drivers (first_or 0 lits (named_bit n c #W_EN i)) (first_or 0 s.active (named n c #W_CLK)); rams = omega arith }

  pub ram_further : (s : Ends) (c : ℕ) → Further s (ram_ends n lits s c)
  ram_further s c = further_trans {t = with_ram s c} (record { pins = keeps_refl s.drivers; rams = insert-longer s.rams c }) (further_over (write_end n lits c) (write_further c) (upto 32) (with_ram s c))

  pub cell_further : (s : Ends) (c : ℕ) (k : Kind) → Further s (cell_ends n lits s c k)
  cell_further s c top = further_refl s
  cell_further s c (and2 x y z) = further_refl s
  cell_further s c inv = further_refl s
  cell_further s c buf = further_refl s
  cell_further s c dff = flop_further s c
  cell_further s c clock_gate = further_refl s
  cell_further s c ram = ram_further s c
  cell_further s c unfit = further_refl s

  pub end_further : (s : Ends) (c : ℕ) → Further s (end_cell n lits s c)
  end_further s c = further_trans (further_over (trace_clock n lits) trace_further (clocks_of n c) s) (cell_further (over (trace_clock n lits) s (clocks_of n c)) c (kind_of n c))

  pub ends_further : (cs : List ℕ) (s : Ends) → Further s (over (end_cell n lits) s cs)
  ends_further cs s = further_over (end_cell n lits) end_further cs s

-- ---- a walk's flag is there
abbrev pub Flagged : List Driver → Walk → Type 0
Flagged ds still = Unit {0}
Flagged ds (root q e) = first_pin (is_flag q e) ds < length ds
Flagged ds (gated w e) = Flagged ds w
Flagged ds strange = Unit {0}
Flagged ds far = Unit {0}

-- and stays there
flagged_keeps : (ds es : List Driver) (w : Walk) → Keeps ds es → Flagged ds w → Flagged es w
flagged_keeps ds es still k f = tt
flagged_keeps ds es (root q e) k f = known_stays (is_flag q e) ds es k f
flagged_keeps ds es (gated w e) k f = flagged_keeps ds es w k f
flagged_keeps ds es strange k f = tt
flagged_keeps ds es far k f = tt

-- the step that looks for it finds or makes it
now_flagged : (ds : List Driver) (w : Walk) → Flagged (flag_of ds w) w
now_flagged ds still = tt
now_flagged ds (root q e) = by_test (first_pin (is_flag q e) ds <? length ds)
    (λ y. rw y (ltb-true (first_pin (is_flag q e) ds) (length ds) y))
    (λ f. rw f (by_test (first_pin (is_flag q e) more <? length more)
    (λ y. ltb-true (first_pin (is_flag q e) more) (length more) y)
    (λ g. true≢false (is_flag q e (driver_at more (length ds)))
    (rw (snoc_at ds (Flag q e) Constant) (flag_self q e))
    (first_none (is_flag q e) more (ltb-false (first_pin (is_flag q e) more) (length more) g) (length ds) (omega (arith, snoc_length ds (Flag q e) Constant))))))
  where
    more : List Driver
    more = ds ++ (Flag q e ∷ [])
now_flagged ds (gated w e) = now_flagged ds w
now_flagged ds strange = tt
now_flagged ds far = tt

over_keeps : (n : Netlist) (ps : List ℕ) (ds : List Driver) → Keeps ds (over (λ es p. flag_of es (walk n p)) ds ps)
over_keeps n [] ds = keeps_refl ds
over_keeps n (p ∷ ps) ds = keeps_trans (flag_of_grows ds (walk n p)).keeps (over_keeps n ps (flag_of ds (walk n p)))

all_flagged : (n : Netlist) (ps : List ℕ) (ds : List Driver) (p : ℕ) → 0 < count p ps → Flagged (over (λ es q. flag_of es (walk n q)) ds ps) (walk n p)
all_flagged n [] ds p m = absurd (omega arith)
all_flagged n (q ∷ ps) ds p m = at_head p q ps m
    (λ e. flagged_keeps (flag_of ds (walk n q)) _ (walk n p) (over_keeps n ps (flag_of ds (walk n q))) (subst (λ (x : ℕ). Flagged (flag_of ds (walk n q)) (walk n x)) (sym e) (now_flagged ds (walk n q))))
    (λ m'. all_flagged n ps (flag_of ds (walk n q)) p m')

-- after step 1 every clock pin's flag is there, in every later table
pub step1_flags : (n : Netlist) (c p : ℕ) → c < cells n → 0 < count p (clocks_of n c) → (ds : List Driver) → Keeps (step1 n) ds → Flagged ds (walk n p)
step1_flags n c p h m ds k = flagged_keeps (step1 n) ds (walk n p) k
    (all_flagged n (clocks n) (Constant ∷ []) p (in_flat (clocks_of n) c p (upto (cells n)) (omega (arith, upto_in (cells n) c h)) m))

-- so asking for it makes nothing
pub flagged_none : (ds : List Driver) (q : ℕ) (e : Edge) → Flagged ds (root q e) → (flag_for ds q e).drivers ≡ ds
flagged_none ds q e f = known_same (is_flag q e) (Flag q e) ds (flag_self q e) (flag_only q e) f
