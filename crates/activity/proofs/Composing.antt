-- Steps one after another, and the state that each leaves to the next.
use mathlib.Core.Path.{◌≡◌, refl, sym, subst, ◌∙◌}
use mathlib.Core.List.{List}
use Prim.Native.Nat.{ℕ, ◌+◌, ◌*◌, ◌<◌, ◌≤◌}
use native.Mathlib.Omega.{arith}
use lib.ListN.{length}
use Rattle.laws.specs.Words.{SameBelow}
use Rattle.std.specs.Prelude.{Option, Some, None}
use Rattle.rules.specs.declared.Driver.{Driver}
use Rattle.rules.specs.declared.Edge.{Edge}
use Rattle.rules.specs.declared.Edge.TheVariants.{Rising, Falling}
use Rattle.rules.specs.declared.Literal.{Literal}
use Rattle.rules.specs.declared.Tally.{Tally}
use Rattle.rules.specs.Netlist.{Netlist, size, cells}
use Rattle.rules.specs.Graph.{Made}
use Rattle.rules.specs.Tables.{edge_word}
use Rattle.rules.specs.Build.{step2}
use Rattle.rules.proofs.Tables.{clash}
use Rattle.builds.proofs.Growing.{Keeps, keeps_trans}
use Rattle.roles.specs.Reading.{Fits}
use Rattle.roles.proofs.Fitting.{laid}
use Rattle.drafts.specs.declared.Draft.{Draft}
use Rattle.drafts.specs.declared.Added.{Added}
use Rattle.drafts.specs.Table.{Table, drafted, drivers_of, Open, Extends, made, added, SameLoans, Adds}
use Rattle.drafts.specs.Table as table
use Rattle.drafts.specs.Layout.{start_of}
use Rattle.drafts.proofs.Steps.{below_refl, below_trans, ends_refl, ends_trans, Extended, extended, longer_full}
use Rattle.drafts.proofs.Drafting.{loans_trans}
use Rattle.activity.specs.Traced.{Ground, Going, IsGoing, start_at}

-- nothing is made
pub nothing_made : (at : ℕ) (w ws : List ℕ) (t : Tally) (l : Literal) → Table at w ws t → Extends at (start_at (drafted ws t) l.word) w ws t w ws (Some (record { lit = l; tally = t }))
nothing_made at w ws t l h = made (record { lit = l; tally = t }) refl refl h refl (ends_refl t) (below_refl at w) refl

-- a step of a draft, by the place of one that it goes on from
pub moved : (m : Made) (d₀ d d' : Draft) (r : Option Literal) → SameLoans d₀ d → Adds m d d' r
    → Extends d₀.at m d.work.now d.drivers.now d.tally d'.work.now d'.drivers.now (added r d'.tally)
moved m d₀ d d' r l s = subst (λ (x : ℕ). Extends x m d.work.now d.drivers.now d.tally d'.work.now d'.drivers.now (added r d'.tally)) l.place s.extends

-- ---- what a step leaves
module _ (at : ℕ) (m : Made) (w ws : List ℕ) (t : Tally) (w₁ ws₁ : List ℕ) where
  pub step_long : (r : Option Added) → Extends at m w ws t w₁ ws₁ r → (length w₁ ≡ length w) × (length ws₁ ≡ length ws)
  step_long r (made a e b c d g i j) = (i.long, j)
  step_long r (table.full a b c d) = (c, d)

  pub step_short : Extends at m w ws t w₁ ws₁ None → length ws < 3 * length m.drivers
  step_short (made a e b c d g i j) = let z : None ≡ Some a = e in clash (cc)
  step_short (table.full a b c d) = b

  pub extends : (one : Added) → Extended at m w ws t w₁ ws₁ one → Extends at m w ws t w₁ ws₁ (Some one)
  extends one l = made one refl l.lit l.table l.drivers l.ends l.below l.long

  -- another step begins where this one ends
  pub goes_on : (one : Added) → Extended at m w ws t w₁ ws₁ one → (m' : Made) (w₂ ws₂ : List ℕ) (r : Option Added) → Extends at m' w₁ ws₁ one.tally w₂ ws₂ r → Extends at m' w ws t w₂ ws₂ r
  goes_on one l m' w₂ ws₂ r (made a e b c d g i j) = made a e b c d (ends_trans l.ends g) (below_trans l.below i) (j ∙ l.long)
  goes_on one l m' w₂ ws₂ r (table.full a b c d) = table.full a (omega (arith, b, l.long)) (c ∙ l.below.long) (d ∙ l.long)

  -- of what is made of the drivers that this one leaves
  pub onward : (one : Added) → Extended at m w ws t w₁ ws₁ one → (f : List Driver → Made) (w₂ ws₂ : List ℕ) (r : Option Added)
      → Extends at (f (drafted ws₁ one.tally)) w₁ ws₁ one.tally w₂ ws₂ r → Extends at (f m.drivers) w ws t w₂ ws₂ r
  onward one l f w₂ ws₂ r s = goes_on one l (f m.drivers) w₂ ws₂ r (subst (λ (ds : List Driver). Extends at (f ds) w₁ ws₁ one.tally w₂ ws₂ r) l.drivers s)

-- ---- the state as step 3 goes on
edge_low : (e : Edge) → edge_word e ≤ 1
edge_low Rising = omega arith
edge_low Falling = omega arith

start-within : (n : Netlist) → Fits n → (c : ℕ) → c < cells n → start_of n c ≤ size n
start-within n f c l = (laid n.kinds n.starts n.list n.pins n.nets f).within c (omega (arith, f.starts_long))

module _ (n : Netlist) (at : ℕ) (w : List ℕ) (g : Ground n at w) where
  pub ground_after : (w₁ : List ℕ) → SameBelow at w w₁ → Ground n at w₁
  ground_after w₁ s = record {
    accepted = g.accepted;
    fits = g.fits;
    below = g.below;
    inside = omega (arith, g.inside, s.long);
    written = record {
      lits = λ p l. s.same (7 * size n + p) (omega (arith, g.below)) ∙ g.written.lits p l;
      flop_numbers = λ c l k. s.same (6 * size n + start_of n c) (omega (arith, g.below, start-within n g.fits c l)) ∙ g.written.flop_numbers c l k;
      flop_pins = λ c l k. s.same (size n + start_of n c) (omega (arith, g.below, start-within n g.fits c l)) ∙ g.written.flop_pins c l k;
      ram_numbers = λ c l k b. s.same (6 * size n + start_of n c) (omega (arith, g.below, start-within n g.fits c l)) ∙ g.written.ram_numbers c l k b;
    };
    flags = record { words = λ q e l. s.same (4 * size n + 2 * q + edge_word e) (omega (arith, g.below, edge_low e)) ∙ g.flags.words q e l };
  }

pub going_after : (n : Netlist) (at : ℕ) (m : Made) (w ws : List ℕ) (t : Tally) (w₁ ws₁ : List ℕ) (one : Added) → Going n at w ws t
    → Extended at m w ws t w₁ ws₁ one → Keeps (drafted ws t) m.drivers → Going n at w₁ ws₁ one.tally
going_after n at m w ws t w₁ ws₁ one g s k = record {
  grounded = ground_after n at w g.grounded w₁ s.below;
  table = s.table;
  keeps = subst (Keeps (step2 n).drivers) (sym s.drivers) (keeps_trans g.keeps k);
}

-- ---- the same of drafts
module _ (m : Made) (d₀ d : Draft) where
  pub adds_longer : (m' : Made) → length m.drivers ≤ length m'.drivers → Adds m d₀ d None → Adds m' d₀ d None
  adds_longer m' l s = record { loans = s.loans; extends = longer_full d₀.at m d₀.work.now d₀.drivers.now d₀.tally d.work.now d.drivers.now m' l s.extends }

  module _ (lit : Literal) (s : Adds m d₀ d (Some lit)) where
    pub adds_extended : Extended d₀.at m d₀.work.now d₀.drivers.now d₀.tally d.work.now d.drivers.now (record { lit = lit; tally = d.tally })
    adds_extended = extended d₀.at m d₀.work.now d₀.drivers.now d₀.tally d.work.now d.drivers.now (record { lit = lit; tally = d.tally }) s.extends

    pub adds_open : Open d
    adds_open = subst (λ (x : ℕ). Table x d.work.now d.drivers.now d.tally) (sym s.loans.place) adds_extended.table

    pub adds_going : (n : Netlist) → IsGoing n d₀ → Keeps (drivers_of d₀) m.drivers → IsGoing n d
    adds_going n g k = subst (λ (x : ℕ). Going n x d.work.now d.drivers.now d.tally) (sym s.loans.place)
        (going_after n d₀.at m d₀.work.now d₀.drivers.now d₀.tally d.work.now d.drivers.now (record { lit = lit; tally = d.tally }) g adds_extended k)

    -- another step begins where this one ends
    pub adds_goes_on : (m' : Made) (d₂ : Draft) (r : Option Literal) → Adds m' d d₂ r → Adds m' d₀ d₂ r
    adds_goes_on m' d₂ r u = record {
      loans = loans_trans s.loans u.loans;
      extends = goes_on d₀.at m d₀.work.now d₀.drivers.now d₀.tally d.work.now d.drivers.now (record { lit = lit; tally = d.tally }) adds_extended m'
          d₂.work.now d₂.drivers.now (added r d₂.tally) (moved m' d₀ d d₂ r s.loans u);
    }

    -- of what is made of the drivers that this one leaves
    pub adds_onward : (f : List Driver → Made) (d₂ : Draft) (r : Option Literal) → Adds (f (drivers_of d)) d d₂ r → Adds (f m.drivers) d₀ d₂ r
    adds_onward f d₂ r u = adds_goes_on (f m.drivers) d₂ r (subst (λ (ds : List Driver). Adds (f ds) d d₂ r) adds_extended.drivers u)
