-- From empty tables through all three steps, in the code's shape.
use mathlib.Core.Path.{◌≡◌, refl, sym, ap, subst, ◌∙◌}
use mathlib.Core.Bool.{false}
use mathlib.Core.List.{List}
use Prim.Native.Nat.{ℕ, ◌+◌, ◌*◌}
use native.Mathlib.Omega.{arith}
use lib.ListN.{length}
use Rattle.std.specs.Prelude.{Option, Some, None}
use Rattle.laws.specs.Words.{zeros, filled}
use Rattle.laws.proofs.Words.{zeros-length, filled-length}
use Rattle.rules.specs.declared.Rooms.{Rooms}
use Rattle.rules.specs.declared.Tally.{Tally}
use Rattle.rules.specs.Netlist.{Netlist}
use Rattle.rules.specs.Build.{step2, graph_of, tally, gate_count}
use Rattle.rules.specs.Refusals.{room_fits}
use Rattle.rules.proofs.Tables.{clash}
use Rattle.roles.specs.Reading.{tables}
use Rattle.drivers.proofs.Rows.{drivers_long_lem}
use Rattle.drafts.specs.declared.Draft.{Draft}
use Rattle.drafts.specs.Table.{Table, counted}
use Rattle.activity.specs.Traced.{Going, IsGoing}
use Rattle.visits.specs.Drafting.{Drafting, Listed, Over, pins_over, outputs_over, dffs_over, rams_over, Moved, moved, stuck, Moves}
use Rattle.ends.specs.Ended.{EndsDone, done, no_pins, no_rams, all_records, all_rows, AddsEnds}
use Rattle.ends.proofs.Ending.{going_begins}
use Rattle.results.proofs.Counts.{tally-kept}
use Rattle.results.proofs.Rooms as rooms
use Rattle.draws.specs.Drawing.{Empty, empty, Undrawn, undrawn, Drawn, drawn, no_room}

-- ---- what is too large in step 2 is too large in the end
over-refused : (n : Netlist) (rm : Rooms) → Over rm (step2 n) → room_fits (tally (graph_of n)) rm ≡ false
over-refused n rm (pins_over l) = rooms.drivers2_over n rm l
over-refused n rm (outputs_over l) = rooms.outputs_over n rm l
over-refused n rm (dffs_over l) = rooms.dffs_over n rm l
over-refused n rm (rams_over l) = rooms.rams2_over n rm l

module _ (kinds starts list pins nets : List ℕ) (rm : Rooms) (w ws os fs rs : List ℕ) (u : Undrawn (tables kinds starts list pins nets) rm w ws os fs rs) where
  abbrev n : Netlist
  n = tables kinds starts list pins nets

  is_empty : Empty (tables kinds starts list pins nets) rm w ws os
  is_empty = from u
    where
      from : Undrawn n rm w ws os fs rs → Empty n rm w ws os
      from (undrawn e f r c) = e

  dffs_are : fs ≡ zeros (3 * rm.dffs)
  dffs_are = from u
    where
      from : Undrawn n rm w ws os fs rs → fs ≡ zeros (3 * rm.dffs)
      from (undrawn e f r c) = f

  rams_are : rs ≡ zeros (123 * rm.rams)
  rams_are = from u
    where
      from : Undrawn n rm w ws os fs rs → rs ≡ zeros (123 * rm.rams)
      from (undrawn e f r c) = r

  dffs_long : length fs ≡ 3 * rm.dffs
  dffs_long = ap length dffs_are ∙ zeros-length (3 * rm.dffs)

  rams_long : length rs ≡ 123 * rm.rams
  rams_long = ap length rams_are ∙ zeros-length (123 * rm.rams)

  module _ (w₁ ws₁ os₁ : List ℕ) where
    graph_full : Moved (tables kinds starts list pins nets) rm (step2 (tables kinds starts list pins nets)) w ws os w₁ ws₁ os₁ None
        → Drawn (tables kinds starts list pins nets) rm w ws os fs rs w₁ ws₁ os₁ fs rs None
    graph_full (moved x e d ls l) = let q : None ≡ Some x = e in clash (cc)
    graph_full (stuck a o l lws los) = no_room refl (over-refused n rm o) l lws los refl refl

    module _ (t : Tally) (v : Moved (tables kinds starts list pins nets) rm (step2 (tables kinds starts list pins nets)) w ws os w₁ ws₁ os₁ (Some t)) where
      parts : Drafting n rm w₁ ws₁ t (step2 n) × Listed rm os₁ (step2 n) × (length w₁ ≡ length w)
      parts = from v
        where
          from : Moved n rm (step2 n) w ws os w₁ ws₁ os₁ (Some t) → Drafting n rm w₁ ws₁ t (step2 n) × Listed rm os₁ (step2 n) × (length w₁ ≡ length w)
          from (moved x e d ls l) = let q : x ≡ t = cc in (subst (λ (y : Tally). Drafting n rm w₁ ws₁ y (step2 n)) q d, ls, l)
          from (stuck a o l lws los) = let q : Some t ≡ None = a in clash (cc)

      draft : Drafting n rm w₁ ws₁ t (step2 n)
      draft = parts.0

      outs_listed : Listed rm os₁ (step2 n)
      outs_listed = parts.1

      work_long_lem : length w₁ ≡ length w
      work_long_lem = parts.2

      table_long : length ws₁ ≡ length ws
      table_long = from is_empty
        where
          from : Empty n rm w ws os → length ws₁ ≡ length ws
          from (empty f a c s z o l) = draft.long ∙ sym (ap length z ∙ zeros-length (3 * (rm.pins + 1)))

      outputs_long : length os₁ ≡ length os
      outputs_long = from is_empty
        where
          from : Empty n rm w ws os → length os₁ ≡ length os
          from (empty f a c s z o l) = ap length outs_listed.words ∙ filled-length (step2 n).outs rm.outputs outs_listed.fits
              ∙ sym (ap length o ∙ zeros-length rm.outputs)

      graph_going : Going (tables kinds starts list pins nets) (8 * length list + 2 * rm.pins + 2) w₁ ws₁ t
      graph_going = from is_empty
        where
          from : Empty n rm w ws os → Going n (8 * length list + 2 * rm.pins + 2) w₁ ws₁ t
          from (empty f a c s z o l) = going_begins n rm.pins w₁ ws₁ t a f (omega (arith, l, work_long_lem)) draft.table draft.drivers draft.written draft.flags

      module _ (at : ℕ) (ea : at ≡ 8 * length list + 2 * rm.pins + 2) where
        graph_drawn : (w₂ ws₂ fs₂ rs₂ : List ℕ) (r : Option Tally) → EndsDone (tables kinds starts list pins nets) at w₁ ws₁ t fs rs w₂ ws₂ fs₂ rs₂ r
            → Drawn (tables kinds starts list pins nets) rm w ws os fs rs w₂ ws₂ os₁ fs₂ rs₂ r
        graph_drawn w₂ ws₂ fs₂ rs₂ r (no_pins e l lw lws lf lr) =
            no_room e (rooms.drivers_over n rm (omega (arith, l, draft.long))) (lw ∙ work_long_lem) (lws ∙ table_long) outputs_long lf lr
        graph_drawn w₂ ws₂ fs₂ rs₂ r (no_rams e l lw lws lf lr) =
            no_room e (rooms.rams_over n rm (omega (arith, l, rams_long))) (lw ∙ work_long_lem) (lws ∙ table_long) outputs_long lf lr
        graph_drawn w₂ ws₂ fs₂ rs₂ r (done x e tb dr to td tr sb lws ef er) = drawn x e
            (subst (λ (y : ℕ). Table y w₂ ws₂ x) ea tb) dr outs_listed.words
            (ef ∙ ap (filled (all_records n)) dffs_long) (er ∙ ap (filled (all_rows n)) rams_long)
            (λ p l. sb.same (7 * length list + p) (omega (arith, ea, l)) ∙ draft.written.lits p l)
            (tally-kept n x (ap length (sym dr) ∙ drivers_long_lem ws₂ x.pins) (tb.gates ∙ ap gate_count dr)
            (to ∙ draft.outputs) (td ∙ draft.dffs) tr)
            (sb.long ∙ work_long_lem) (lws ∙ table_long)

-- ---- the same of a draft, whose tables go back to the caller
module _ (kinds starts list pins nets : List ℕ) (rm : Rooms) (os fs rs : List ℕ) (d d₁ : Draft) (os₁ : List ℕ)
    (u : Undrawn (tables kinds starts list pins nets) rm d.work.now d.drivers.now os fs rs) where
  pub draft_full : Moves (tables kinds starts list pins nets) rm (step2 (tables kinds starts list pins nets)) d os d₁ os₁ None → (w' ws' : List ℕ) → w' ≡ d₁.work.now → ws' ≡ d₁.drivers.now
      → Drawn (tables kinds starts list pins nets) rm d.work.now d.drivers.now os fs rs w' ws' os₁ fs rs None
  draft_full m w' ws' ew es = subst (λ (x : List ℕ). Drawn (tables kinds starts list pins nets) rm d.work.now d.drivers.now os fs rs x ws' os₁ fs rs None) (sym ew)
      (subst (λ (x : List ℕ). Drawn (tables kinds starts list pins nets) rm d.work.now d.drivers.now os fs rs d₁.work.now x os₁ fs rs None) (sym es)
      (graph_full kinds starts list pins nets rm d.work.now d.drivers.now os fs rs u d₁.work.now d₁.drivers.now os₁ m.moved))

  module _ (m : Moves (tables kinds starts list pins nets) rm (step2 (tables kinds starts list pins nets)) d os d₁ os₁ (Some tt)) (ea : d.at ≡ 8 * length list + 2 * rm.pins + 2) where
    pub draft_going : IsGoing (tables kinds starts list pins nets) d₁
    draft_going = subst (λ (x : ℕ). Going (tables kinds starts list pins nets) x d₁.work.now d₁.drivers.now d₁.tally) (sym (m.loans.place ∙ ea))
        (graph_going kinds starts list pins nets rm d.work.now d.drivers.now os fs rs u d₁.work.now d₁.drivers.now os₁ d₁.tally m.moved)

    pub draft_drawn : (d₂ : Draft) (fs₂ rs₂ : List ℕ) (r : Option (Unit {0})) → AddsEnds (tables kinds starts list pins nets) d₁ fs rs d₂ fs₂ rs₂ r → (w' ws' : List ℕ) → w' ≡ d₂.work.now → ws' ≡ d₂.drivers.now
        → Drawn (tables kinds starts list pins nets) rm d.work.now d.drivers.now os fs rs w' ws' os₁ fs₂ rs₂ (counted r d₂.tally)
    draft_drawn d₂ fs₂ rs₂ r a w' ws' ew es =
        subst (λ (x : List ℕ). Drawn (tables kinds starts list pins nets) rm d.work.now d.drivers.now os fs rs x ws' os₁ fs₂ rs₂ (counted r d₂.tally)) (sym ew)
        (subst (λ (x : List ℕ). Drawn (tables kinds starts list pins nets) rm d.work.now d.drivers.now os fs rs d₂.work.now x os₁ fs₂ rs₂ (counted r d₂.tally)) (sym es)
        (graph_drawn kinds starts list pins nets rm d.work.now d.drivers.now os fs rs u d₁.work.now d₁.drivers.now os₁ d₁.tally m.moved d₁.at (m.loans.place ∙ ea)
        d₂.work.now d₂.drivers.now fs₂ rs₂ (counted r d₂.tally) a.ends))
