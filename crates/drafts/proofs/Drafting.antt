-- The same laws of a draft.
use mathlib.Core.Path.{◌≡◌, refl, sym, ◌∙◌, subst}
use Prim.Native.Nat.{ℕ}
use Rattle.std.specs.Prelude.{Option, Some, None}
use Rattle.rules.specs.declared.Literal.{Literal}
use Rattle.rules.specs.Graph.{opposite, and_of, or_not}
use Rattle.drafts.specs.declared.Draft.{Draft}
use Rattle.drafts.specs.Table.{Table, set_reset, Extends, drivers_of, Open, added, SameLoans, Adds}
use Rattle.drafts.proofs.Steps.{or_made, set_full, set-table, set_then}

pub loans_refl : (d : Draft) → SameLoans d d
loans_refl d = record { drivers = refl; work = refl; place = refl }

pub loans_trans : {a b c : Draft} → SameLoans a b → SameLoans b c → SameLoans a c
loans_trans f g = record { drivers = g.drivers ∙ f.drivers; work = g.work ∙ f.work; place = g.place ∙ f.place }

module _ (d d' : Draft) (v x : ℕ) (other : Literal) (o : other.word ≡ opposite v) where
  pub or_adds : (lit turned : Literal) → Adds (and_of (drivers_of d) other.word x) d d' (Some lit) → turned.word ≡ opposite lit.word
      → Adds (or_not (drivers_of d) v x) d d' (Some turned)
  or_adds lit turned s f = record {
    loans = s.loans;
    extends = or_made d.at d.work.now d.drivers.now d.tally v x other d'.work.now d'.drivers.now o (record { lit = lit; tally = d'.tally }) turned s.extends f;
  }

module _ (d d' : Draft) (v s r : ℕ) where
  pub set_adds_none : Adds (or_not (drivers_of d) v s) d d' None → Adds (set_reset (drivers_of d) v s r) d d' None
  set_adds_none a = record {
    loans = a.loans;
    extends = set_full d.at d.work.now d.drivers.now d.tally v s r d'.work.now d'.drivers.now a.extends;
  }

  module _ (lit : Literal) (a : Adds (or_not (drivers_of d) v s) d d' (Some lit)) where
    pub set_open : Open d'
    set_open = subst (λ (x : ℕ). Table x d'.work.now d'.drivers.now d'.tally) (sym a.loans.place)
        (set-table d.at d.work.now d.drivers.now d.tally v s r d'.work.now d'.drivers.now (record { lit = lit; tally = d'.tally }) a.extends)

    pub set_adds : (d₂ : Draft) (two : Option Literal) → Adds (and_of (drivers_of d') lit.word r) d' d₂ two → Adds (set_reset (drivers_of d) v s r) d d₂ two
    set_adds d₂ two b = record {
      loans = loans_trans a.loans b.loans;
      extends = set_then d.at d.work.now d.drivers.now d.tally v s r d'.work.now d'.drivers.now (record { lit = lit; tally = d'.tally }) a.extends
          d₂.work.now d₂.drivers.now (added two d₂.tally)
          (subst (λ (x : ℕ). Extends x (and_of (drivers_of d') lit.word r) d'.work.now d'.drivers.now d'.tally d₂.work.now d₂.drivers.now (added two d₂.tally)) a.loans.place b.extends);
    }
