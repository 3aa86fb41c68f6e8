-- A record's pin is there: what a flip-flop's or a RAM's step leaves.
use mathlib.Core.Path.{◌≡◌, sym, ap, subst, ◌∙◌}
use mathlib.Core.List.{List}
use Prim.Native.Nat.{ℕ, ◌+◌, ◌*◌}
use lib.ListN.{set}
use Rattle.std.specs.Prelude.{Option, Some, None}
use Rattle.std.specs.Borrow.{MutBor}
use Rattle.rules.specs.declared.Driver.{Driver}
use Rattle.rules.specs.declared.Driver.TheVariants.{Dff, Ram}
use Rattle.rules.specs.declared.Literal.{Literal}
use Rattle.rules.specs.declared.Tally.{Tally}
use Rattle.drafts.specs.declared.Draft.{Draft}
use Rattle.drafts.specs.declared.Added.{Added}
use Rattle.drafts.specs.Table.{drafted, pushed, Extends, drivers_of, added, SameLoans, Adds}
use Rattle.drafts.specs.Table as draft
use Rattle.drafts.proofs.Steps.{extended}
use Rattle.numbers.specs.Numbering.{counted, numbered, flops_counted, rams_counted}
use Rattle.entries.specs.Made.{own_words, data_words, FlopMade, flop, RamMade, ram, Stands, pinned, AddsFlop, AddsRam}

module _ (m at room cell place : ℕ) (w ws : List ℕ) (t : Tally) (ws' : List ℕ) (step : Added) where
  pub flop_fits : Extends at (pushed (drafted ws t) (Dff cell)) w ws t w ws' (Some step) → (w' : List ℕ) (r : Option Tally)
      → w' ≡ numbered (own_words w m place step.tally) (6 * m + place) step.tally.dffs
      → r ≡ flops_counted step.tally (counted (own_words w m place step.tally) (6 * m + place) step.tally.dffs) room
      → FlopMade m at room cell place w ws t w' ws' r
  flop_fits s w' r ew er =
      let x = extended at (pushed (drafted ws t) (Dff cell)) w ws t w ws' step s in
      flop step.tally x.table x.drivers x.ends x.long ew er

  pub ram_fits : (p : ℕ) → Extends at (pushed (drafted ws t) (Ram cell)) w ws t w ws' (Some step) → (w₁ w' : List ℕ) (r : Option Tally)
      → w₁ ≡ set w (7 * m + p) step.lit.word → w' ≡ numbered w₁ (6 * m + place) step.tally.rams
      → r ≡ rams_counted step.tally (counted w₁ (6 * m + place) step.tally.rams) room
      → RamMade m at room cell place p w ws t w' ws' r
  ram_fits p s w₁ w' r e₁ ew er =
      let x = extended at (pushed (drafted ws t) (Ram cell)) w ws t w ws' step s in
      let q : w₁ ≡ data_words w m p ws t = e₁ ∙ ap (set w (7 * m + p)) x.lit in
      ram step.tally x.table x.drivers x.ends x.long
      (ew ∙ ap (λ (v : List ℕ). numbered v (6 * m + place) step.tally.rams) q)
      (er ∙ ap (λ (v : List ℕ). rams_counted step.tally (counted v (6 * m + place) step.tally.rams) room) q)

-- ---- the same of drafts
module _ (m room cell place : ℕ) (d d₁ : Draft) (same : d₁.work.now ≡ d.work.now) where
  -- the pin's step, over the words of before
  pinned_over : (p : Driver) (lit : Literal) → Adds (pushed (drivers_of d) p) d d₁ (Some lit)
      → Extends d.at (pushed (drivers_of d) p) d.work.now d.drivers.now d.tally d.work.now d₁.drivers.now (added (Some lit) d₁.tally)
  pinned_over p lit a = subst (λ (w : List ℕ). Extends d.at (pushed (drivers_of d) p) d.work.now d.drivers.now d.tally w d₁.drivers.now (added (Some lit) d₁.tally)) same a.extends

  -- where the record does not fit, the tally is that of the table with the pin
  stands : (p : Driver) (lit : Literal) → Adds (pushed (drivers_of d) p) d d₁ (Some lit) → (work : MutBor (List ℕ)) (tally : Tally) → tally ≡ d₁.tally
      → Stands p d (record d₁ { work = work; tally = tally })
  stands p lit a work tally e =
      let x = extended d.at (pushed (drivers_of d) p) d.work.now d.drivers.now d.tally d.work.now d₁.drivers.now (record { lit = lit; tally = d₁.tally }) (pinned_over p lit a) in
      subst (λ (t : Tally). Stands p d (record d₁ { work = work; tally = t })) (sym e) (pinned x.table x.drivers x.ends)

  -- what is made; nothing is asked of the tally where the record does not fit, so that nothing is said of it
  pub adds_flop : (lit : Literal) → Adds (pushed (drivers_of d) (Dff cell)) d d₁ (Some lit) → (work : MutBor (List ℕ)) (tally : Tally) (r : Option (Unit {0}))
      → work.ghost_name ≡ d₁.work.ghost_name → work.now ≡ numbered (own_words d₁.work.now m place d₁.tally) (6 * m + place) d₁.tally.dffs
      → (count : ℕ) → count ≡ counted (own_words d₁.work.now m place d₁.tally) (6 * m + place) d₁.tally.dffs
      → draft.counted r tally ≡ flops_counted d₁.tally count room
      → SameLoans d (record d₁ { work = work; tally = tally })
      × FlopMade m d.at room cell place d.work.now d.drivers.now d.tally work.now d₁.drivers.now (draft.counted r tally)
  adds_flop lit a work tally r g ew count ec er = (
    record { drivers = a.loans.drivers; work = g ∙ a.loans.work; place = a.loans.place },
    flop_fits m d.at room cell place d.work.now d.drivers.now d.tally d₁.drivers.now (record { lit = lit; tally = d₁.tally })
        (pinned_over (Dff cell) lit a)
        work.now (draft.counted r tally)
        (ew ∙ ap (λ (w : List ℕ). numbered (own_words w m place d₁.tally) (6 * m + place) d₁.tally.dffs) same)
        (er ∙ ap (λ (n : ℕ). flops_counted d₁.tally n room) (ec ∙ ap (λ (w : List ℕ). counted (own_words w m place d₁.tally) (6 * m + place) d₁.tally.dffs) same)),
  )

  -- the whole promise, for a caller who knows that tally to be the one with the pin
  pub adds_flop_kept : (lit : Literal) → Adds (pushed (drivers_of d) (Dff cell)) d d₁ (Some lit) → (work : MutBor (List ℕ)) (tally : Tally) (r : Option (Unit {0}))
      → (r ≡ None → tally ≡ d₁.tally) → work.ghost_name ≡ d₁.work.ghost_name → work.now ≡ numbered (own_words d₁.work.now m place d₁.tally) (6 * m + place) d₁.tally.dffs
      → (count : ℕ) → count ≡ counted (own_words d₁.work.now m place d₁.tally) (6 * m + place) d₁.tally.dffs
      → draft.counted r tally ≡ flops_counted d₁.tally count room
      → AddsFlop m room cell place d (record d₁ { work = work; tally = tally }) r
  adds_flop_kept lit a work tally r k g ew count ec er =
      let b = adds_flop lit a work tally r g ew count ec er in
      record { loans = b.0; made = b.1; kept = λ e. stands (Dff cell) lit a work tally (k e) }

  -- what is made; nothing is asked of the tally where the record does not fit, so that nothing is said of it
  pub adds_ram : (p : ℕ) (lit : Literal) → Adds (pushed (drivers_of d) (Ram cell)) d d₁ (Some lit) → (work : MutBor (List ℕ)) (tally : Tally) (r : Option (Unit {0})) (w₁ : List ℕ)
      → work.ghost_name ≡ d₁.work.ghost_name → w₁ ≡ set d₁.work.now (7 * m + p) lit.word → work.now ≡ numbered w₁ (6 * m + place) d₁.tally.rams
      → (count : ℕ) → count ≡ counted w₁ (6 * m + place) d₁.tally.rams → draft.counted r tally ≡ rams_counted d₁.tally count room
      → SameLoans d (record d₁ { work = work; tally = tally })
      × RamMade m d.at room cell place p d.work.now d.drivers.now d.tally work.now d₁.drivers.now (draft.counted r tally)
  adds_ram p lit a work tally r w₁ g e₁ ew count ec er = (
    record { drivers = a.loans.drivers; work = g ∙ a.loans.work; place = a.loans.place },
    ram_fits m d.at room cell place d.work.now d.drivers.now d.tally d₁.drivers.now (record { lit = lit; tally = d₁.tally }) p
        (pinned_over (Ram cell) lit a)
        w₁ work.now (draft.counted r tally) (e₁ ∙ ap (λ (w : List ℕ). set w (7 * m + p) lit.word) same) ew
        (er ∙ ap (λ (n : ℕ). rams_counted d₁.tally n room) ec),
  )

  -- the whole promise, for a caller who knows that tally to be the one with the pin
  pub adds_ram_kept : (p : ℕ) (lit : Literal) → Adds (pushed (drivers_of d) (Ram cell)) d d₁ (Some lit) → (work : MutBor (List ℕ)) (tally : Tally) (r : Option (Unit {0})) (w₁ : List ℕ)
      → (r ≡ None → tally ≡ d₁.tally) → work.ghost_name ≡ d₁.work.ghost_name → w₁ ≡ set d₁.work.now (7 * m + p) lit.word → work.now ≡ numbered w₁ (6 * m + place) d₁.tally.rams
      → (count : ℕ) → count ≡ counted w₁ (6 * m + place) d₁.tally.rams → draft.counted r tally ≡ rams_counted d₁.tally count room
      → AddsRam m room cell place p d (record d₁ { work = work; tally = tally }) r
  adds_ram_kept p lit a work tally r w₁ k g e₁ ew count ec er =
      let b = adds_ram p lit a work tally r w₁ g e₁ ew count ec er in
      record { loans = b.0; made = b.1; kept = λ e. stands (Ram cell) lit a work tally (k e) }
