-- A pin's literal in the work words, and what is there once it is written.
use Rattle.std.specs.Prelude.{◌≡◌, Bool, Option, Some, None, List, ℕ, ◌+◌, ◌*◌, ◌<◌, length, get_or}
use Rattle.rules.specs.declared.Tally.{Tally}
use Rattle.rules.specs.Graph.{opposite_if, Made}
use Rattle.drafts.specs.declared.Draft.{Draft}
use Rattle.drafts.specs.Table.{Table, drafted, SameEnds, counted, SameLoans}

abbrev pub word_at : List ℕ → ℕ → ℕ → ℕ
word_at w m p = get_or w (7 * m + p) 0

abbrev pub turned_made : Bool → Made → Made
turned_made z k = record { drivers = k.drivers; lit = opposite_if z k.lit }

-- of the words before the index one alone is written
pub record Except (at i : ℕ) (w w' : List ℕ) : Type 0 where
  pub long : length w' ≡ length w
  pub same : (j : ℕ) → j < at → (j ≡ i → ⊥) → get_or w' j 0 ≡ get_or w j 0

-- all of k is there and its literal is that of pin p; or the table has no room for it
pub data Left (at m p : ℕ) (k : Made) (w ws : List ℕ) (t : Tally) (w' ws' : List ℕ) (r : Option Tally) : Type 0 where
  left : (t' : Tally) → r ≡ Some t' → Table at w' ws' t' → drafted ws' t' ≡ k.drivers → SameEnds t t' → Except at (7 * m + p) w w'
      → word_at w' m p ≡ k.lit → length ws' ≡ length ws → Left at m p k w ws t w' ws' r
  full : r ≡ None → length ws < 3 * length k.drivers → length w' ≡ length w → length ws' ≡ length ws → Left at m p k w ws t w' ws' r

-- the same of a draft
pub record Leaves (m p : ℕ) (k : Made) (d d' : Draft) (r : Option (Unit {0})) : Type 0 where
  pub loans : SameLoans d d'
  pub left : Left d.at m p k d.work.now d.drivers.now d.tally d'.work.now d'.drivers.now (counted r d'.tally)
