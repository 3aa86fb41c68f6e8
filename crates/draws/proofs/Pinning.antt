-- From empty tables through steps 1 and 2, in the code's shape.
use Rattle.std.specs.Prelude.{Option, Some, None}
use mathlib.Core.Path.{◌≡◌, refl, sym, ap, subst, ◌∙◌}
use mathlib.Core.List.{List, [], ◌∷◌, map}
use Prim.Native.Nat.{ℕ, zero, suc, ◌+◌, ◌*◌, ◌≤◌, ◌<◌}
use native.Mathlib.Omega.{arith}
use native.Mathlib.Numerals.{add-one}
use lib.ListN.{length, get_or, length-map}
use Rattle.laws.specs.Search.{Event, enter}
use Rattle.laws.specs.Words.{zeros, part, ZeroFrom}
use Rattle.laws.proofs.Indices.{map_at}
use Rattle.laws.proofs.Words.{zeros-length, zeros_at, zero_from_zeros, filled_none, part_length, part_at}
use Rattle.rules.specs.declared.Driver.TheVariants.{Constant}
use Rattle.rules.specs.declared.Tally.{Tally}
use Rattle.rules.specs.declared.Rooms.{Rooms}
use Rattle.rules.specs.Netlist.{Netlist, size, cells, start_of, kind_of, dff}
use Rattle.rules.specs.Graph.{driver_at}
use Rattle.rules.specs.Tables.{decode, decode_at, drivers_in}
use Rattle.rules.proofs.Tables.{clash}
use Rattle.rules.specs.Build.{events, step1, start2, step2, gate_count}
use Rattle.roles.specs.Reading.{tables}
use Rattle.drivers.specs.Written.{Holds}
use Rattle.drivers.proofs.Rows.{holds_drivers}
use Rattle.gates.specs.Step.{Ready}
use Rattle.gates.proofs.Steps.{ready_start}
use Rattle.orders.specs.State.{event_of, events_of}
use Rattle.builds.proofs.Tallies.{step2_keeps}
use Rattle.drafts.specs.declared.Draft.{Draft}
use Rattle.drafts.specs.Table.{Table, counted}
use Rattle.drafts.specs.Layout.{Flags}
use Rattle.drafts.proofs.Drafting.{loans_trans}
use Rattle.flags.specs.Flagging.{Flagged, Blank, IsBlank, AddsFlags}
use Rattle.flags.specs.Flagging as flags
use Rattle.flags.proofs.Passing.{Kept, kept}
use Rattle.prepares.specs.Prepared.{Cleared}
use Rattle.visits.specs.Drafting.{Drafting, Listed, pins_over, Moved, moved, stuck, Visiting, visiting, event_at, state_at, IsVisiting, Moves}
use Rattle.visits.proofs.Places.{number_empty, start-below}
use Rattle.visits.proofs.Holding.{dff_listed}
use Rattle.draws.specs.Drawing.{Empty, empty, no_tally, fresh}

-- ---- pin 0 alone
zero_holds : (r : ℕ) → Holds (zeros (3 * (r + 1))) (Constant ∷ [])
unfolding decode_at
zero_holds r = record {
  long = omega (arith, zeros-length (3 * (r + 1)));
  row = row;
  rest = zero_from_zeros (3 * (r + 1)) 3;
}
  where
    row : (u : ℕ) → u < 1 → decode_at (zeros (3 * (r + 1))) u ≡ Some (driver_at (Constant ∷ []) u)
    row zero l = λ i. decode (zeros_at (3 * (r + 1)) 0 i) (zeros_at (3 * (r + 1)) 1 i) (zeros_at (3 * (r + 1)) 2 i)
    row (suc u) l = absurd (omega (arith, l))

-- an event of the rules by its word
event_word : (n : Netlist) (w : List ℕ) → 4 * size n ≤ length w → events_of w (2 * size n) (2 * size n) ≡ events n
    → (length (events n) ≡ 2 * size n) × ((i : ℕ) → i < 2 * size n → event_of (get_or w (2 * size n + i) 0) ≡ event_at n i)
unfolding events_of event_at
event_word n w l e = (sym (ap length e) ∙ long, λ i h. sym (ap (λ (es : List Event). get_or es i (enter 0)) (sym e) ∙ at i h))
  where
    long : length (map event_of (part w (2 * size n) (2 * size n))) ≡ 2 * size n
    long = length-map (part w (2 * size n) (2 * size n)) event_of ∙ part_length w (2 * size n) (2 * size n) (omega (arith, l))

    at : (i : ℕ) → i < 2 * size n → get_or (map event_of (part w (2 * size n) (2 * size n))) i (enter 0) ≡ event_of (get_or w (2 * size n + i) 0)
    at i h = map_at event_of (part w (2 * size n) (2 * size n)) i 0 (enter 0) (omega (arith, h, part_length w (2 * size n) (2 * size n) (omega (arith, l))))
        ∙ ap event_of (part_at w (2 * size n) (2 * size n) i h)

state_first : (n : Netlist) → state_at n 0 ≡ start2 (step1 n)
unfolding state_at
state_first n = refl

zero_from : (n : Netlist) (w : List ℕ) (at : ℕ) → 4 * size n ≤ at → Cleared n w → ZeroFrom w at
unfolding ZeroFrom
zero_from n w at l c j h = c.after j (omega (arith, l, h))

module _ (kinds starts list pins nets : List ℕ) (rm : Rooms) (w ws os : List ℕ) (e : Empty (tables kinds starts list pins nets) rm w ws os) where
  abbrev n : Netlist
  n = tables kinds starts list pins nets

  abbrev m : ℕ
  m = length list

  module _ (at : ℕ) (ea : at ≡ 8 * length list + 2 * rm.pins + 2) where
    empty_blank : Blank (length list) at w ws no_tally
    empty_blank = from e
      where
        from : Empty n rm w ws os → Blank (length list) at w ws no_tally
        from (empty f a c s z o l) = record {
          table = record {
            ready = ready;
            gates = ap gate_count (sym alone);
            few = omega arith;
          };
          alone = alone;
          clear = λ j lo hi. c.after j lo;
          small = s.pins;
          inside = omega (arith, ea);
        }
          where
            holds : Holds ws (Constant ∷ [])
            holds = subst (λ (x : List ℕ). Holds x (Constant ∷ [])) (sym z) (zero_holds rm.pins)

            long : length ws ≡ 3 * (rm.pins + 1)
            long = ap length z ∙ zeros-length (3 * (rm.pins + 1))

            ready : Ready at w ws 0
            ready = ready_start at w ws holds (zero_from n w at (omega (arith, ea)) c) (omega (arith, long, s.graph_pins)) (omega (arith, long, l, ea))

            alone : drivers_in ws 0 ≡ Constant ∷ []
            alone = holds_drivers ws (Constant ∷ []) 0 holds refl

    module _ (w₁ ws₁ : List ℕ) where
      pins_full : Flagged (length list) at (step1 (tables kinds starts list pins nets)) w ws no_tally w₁ ws₁ None
          → Moved (tables kinds starts list pins nets) rm (step2 (tables kinds starts list pins nets)) w ws os w₁ ws₁ os None
      pins_full g = from e g
        where
          from : Empty n rm w ws os → Flagged (length list) at (step1 n) w ws no_tally w₁ ws₁ None → Moved n rm (step2 n) w ws os w₁ ws₁ os None
          from (empty f a c s z o l) (flags.made t x b d k i j) = let q : None ≡ Some t = x in clash (cc)
          from (empty f a c s z o l) (flags.full x b d k) =
              stuck refl (pins_over (omega (arith, b, ap length z, zeros-length (3 * (rm.pins + 1)), (step2_keeps n).longer))) d k refl

      pins_begun : (t : Tally) → Flagged (length list) at (step1 (tables kinds starts list pins nets)) w ws no_tally w₁ ws₁ (Some t)
          → Visiting (tables kinds starts list pins nets) rm w₁ ws₁ os t at 0
      pins_begun t g = from e (kept (length list) at (step1 n) w ws no_tally w₁ ws₁ t g)
        where
          from : Empty n rm w ws os → Kept (length list) at (step1 n) w ws no_tally w₁ ws₁ t → Visiting n rm w₁ ws₁ os t at 0
          from (empty f a c s z o l) g =
              let ev = event_word n w c.long c.order in
              visiting f a ev.0 (subst (Drafting n rm w₁ ws₁ t) (sym (state_first n)) (begun ev.1))
              (subst (Listed rm os) (sym (state_first n)) (record { fits = omega arith; words = o ∙ sym (filled_none rm.outputs) })) ea
            where
              old : (y : ℕ) → 6 * length list ≤ y → y < at → get_or w₁ y 0 ≡ 0
              old y lo hi = g.only.after y lo hi ∙ c.after y (omega (arith, lo))

              low : (y : ℕ) → y < 2 * length list → get_or w₁ y 0 ≡ 0
              low y hi = g.only.before y (omega (arith, hi)) ∙ c.before y hi

              flop_low : (v : ℕ) → v < cells n → kind_of n v ≡ dff → start_of n v < length list
              flop_low v lv kv = start-below n f.accepted v lv (dff_listed n f.accepted v lv kv)

              begun : ((y : ℕ) → y < 2 * size n → event_of (get_or w (2 * size n + y) 0) ≡ event_at n y) → Drafting n rm w₁ ws₁ t (start2 (step1 n))
              begun ev = record {
                sized = s;
                table = subst (λ (y : ℕ). Table y w₁ ws₁ t) ea g.state.table;
                long = g.long ∙ ap length z ∙ zeros-length (3 * (rm.pins + 1));
                drivers = g.drivers;
                written = record {
                  lits = λ p h. old (7 * length list + p) (omega arith) (omega (arith, ea, h));
                  flop_numbers = λ v lv kv. old (6 * length list + start_of n v) (omega arith) (omega (arith, ea, flop_low v lv kv)) ∙ sym (number_empty v);
                  flop_pins = λ v lv kv. low (length list + start_of n v) (omega (arith, flop_low v lv kv));
                  ram_numbers = λ v lv kv h. old (6 * length list + start_of n v) (omega arith)
                      (omega (arith, ea, start-below n f.accepted v lv (omega (arith, h, ap (start_of n) (add-one v))))) ∙ sym (number_empty v);
                };
                marked = λ y h. old (8 * length list + y) (omega arith) (omega (arith, ea, h));
                outputs = g.ends.outputs;
                dffs = g.ends.dffs;
                rams = g.ends.rams;
                dffs_fit = omega (arith, g.ends.dffs);
                rams_fit = omega (arith, g.ends.rams);
                order = λ y h. ap event_of (g.only.before (2 * length list + y) (omega (arith, h))) ∙ ev y h;
                flags = subst (Flags (length list) w₁) g.drivers g.state.flags;
              }

      pins_done : (t : Tally) → Flagged (length list) at (step1 (tables kinds starts list pins nets)) w ws no_tally w₁ ws₁ (Some t) → (w₂ ws₂ os₂ : List ℕ) (r : Option Tally)
          → Moved (tables kinds starts list pins nets) rm (step2 (tables kinds starts list pins nets)) w₁ ws₁ os w₂ ws₂ os₂ r
          → Moved (tables kinds starts list pins nets) rm (step2 (tables kinds starts list pins nets)) w ws os w₂ ws₂ os₂ r
      pins_done t g w₂ ws₂ os₂ r v = from (kept (length list) at (step1 n) w ws no_tally w₁ ws₁ t g) v
        where
          from : Kept (length list) at (step1 n) w ws no_tally w₁ ws₁ t → Moved n rm (step2 n) w₁ ws₁ os w₂ ws₂ os₂ r → Moved n rm (step2 n) w ws os w₂ ws₂ os₂ r
          from g (moved x a c l y) = moved x a c l (y ∙ g.only.long)
          from g (stuck a c l y z) = stuck a c (l ∙ g.only.long) (y ∙ g.long) z

-- ---- the same of a draft
module _ (kinds starts list pins nets : List ℕ) (rm : Rooms) (lent : Draft) (os : List ℕ) (e : Empty (tables kinds starts list pins nets) rm lent.work.now lent.drivers.now os) where
  abbrev d : Draft
  d = fresh (tables kinds starts list pins nets) rm lent

  pub draft_blank : IsBlank (length list) d
  draft_blank = empty_blank kinds starts list pins nets rm lent.work.now lent.drivers.now os e d.at refl

  module _ (d₁ : Draft) where
    pub draft_full : AddsFlags (length list) (step1 (tables kinds starts list pins nets)) d d₁ None
        → Moves (tables kinds starts list pins nets) rm (step2 (tables kinds starts list pins nets)) d os d₁ os None
    draft_full a = record {
      loans = a.loans;
      moved = pins_full kinds starts list pins nets rm d.work.now d.drivers.now os e d.at refl d₁.work.now d₁.drivers.now a.flagged;
    }

    module _ (a : AddsFlags (length list) (step1 (tables kinds starts list pins nets)) d d₁ (Some tt)) where
      pub draft_begun : IsVisiting (tables kinds starts list pins nets) rm d₁ os 0
      draft_begun = subst (λ (x : ℕ). Visiting (tables kinds starts list pins nets) rm d₁.work.now d₁.drivers.now os d₁.tally x 0) (sym a.loans.place)
          (pins_begun kinds starts list pins nets rm d.work.now d.drivers.now os e d.at refl d₁.work.now d₁.drivers.now d₁.tally a.flagged)

      pub draft_done : (d₂ : Draft) (os₂ : List ℕ) (r : Option (Unit {0})) → Moves (tables kinds starts list pins nets) rm (step2 (tables kinds starts list pins nets)) d₁ os d₂ os₂ r
          → Moves (tables kinds starts list pins nets) rm (step2 (tables kinds starts list pins nets)) d os d₂ os₂ r
      draft_done d₂ os₂ r m = record {
        loans = loans_trans a.loans m.loans;
        moved = pins_done kinds starts list pins nets rm d.work.now d.drivers.now os e d.at refl d₁.work.now d₁.drivers.now d₁.tally a.flagged
            d₂.work.now d₂.drivers.now os₂ (counted r d₂.tally) m.moved;
      }
