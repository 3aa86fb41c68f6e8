-- What the tables and the work words hold once an entry is made; or that there is no room for it.
use Rattle.std.specs.Prelude.{◌≡◌, Option, Some, None, List, [], ◌∷◌, ◌++◌, ℕ, ◌+◌, ◌*◌, ◌<◌, ◌≤◌, length, get_or, set}
use Rattle.rules.specs.declared.Driver.{Driver}
use Rattle.rules.specs.declared.Driver.TheVariants.{Dff, Ram}
use Rattle.rules.specs.declared.Tally.{Tally}
use Rattle.tallies.specs.Counted.{output_counted}
use Rattle.drafts.specs.declared.Draft.{Draft}
use Rattle.drafts.specs.Table.{Table, drafted, drivers_of, SameEnds, SameLoans}
use Rattle.drafts.specs.Table as draft
use Rattle.numbers.specs.Numbering.{counted, numbered, flops_counted, rams_counted}

-- a flip-flop of a cell whose list begins at `place`: its own pin, and its number
abbrev pub own_words : List ℕ → ℕ → ℕ → Tally → List ℕ
own_words w m place u = set w (m + place) u.pins

pub data FlopMade (m at room cell place : ℕ) (w ws : List ℕ) (t : Tally) (w' ws' : List ℕ) (r : Option Tally) : Type 0 where
  flop : (u : Tally) → Table at w ws' u → drafted ws' u ≡ drafted ws t ++ (Dff cell ∷ []) → SameEnds t u → length ws' ≡ length ws
      → w' ≡ numbered (own_words w m place u) (6 * m + place) u.dffs → r ≡ flops_counted u (counted (own_words w m place u) (6 * m + place) u.dffs) room
      → FlopMade m at room cell place w ws t w' ws' r
  no_flop : r ≡ None → length ws < 3 * length (drafted ws t ++ (Dff cell ∷ [])) → w' ≡ w → length ws' ≡ length ws → FlopMade m at room cell place w ws t w' ws' r

-- a read-data pin p of a RAM: its pin, and the RAM's number
abbrev pub data_words : List ℕ → ℕ → ℕ → List ℕ → Tally → List ℕ
data_words w m p ws t = set w (7 * m + p) (2 * length (drafted ws t))

pub data RamMade (m at room cell place p : ℕ) (w ws : List ℕ) (t : Tally) (w' ws' : List ℕ) (r : Option Tally) : Type 0 where
  ram : (u : Tally) → Table at w ws' u → drafted ws' u ≡ drafted ws t ++ (Ram cell ∷ []) → SameEnds t u → length ws' ≡ length ws
      → w' ≡ numbered (data_words w m p ws t) (6 * m + place) u.rams → r ≡ rams_counted u (counted (data_words w m p ws t) (6 * m + place) u.rams) room
      → RamMade m at room cell place p w ws t w' ws' r
  no_ram_lem : r ≡ None → length ws < 3 * length (drafted ws t ++ (Ram cell ∷ [])) → w' ≡ w → length ws' ≡ length ws → RamMade m at room cell place p w ws t w' ws' r

-- an output port p takes the literal l, which joins the outputs where it is new
pub data OutputMade (m p l : ℕ) (w os : List ℕ) (t : Tally) (w' os' : List ℕ) (r : Option Tally) : Type 0 where
  known : (get_or (set w (7 * m + p) l) (8 * m + l) 0 ≡ 0 → ⊥) → r ≡ Some t → w' ≡ set w (7 * m + p) l → os' ≡ os
      → OutputMade m p l w os t w' os' r
  new : get_or (set w (7 * m + p) l) (8 * m + l) 0 ≡ 0 → t.outputs < length os → r ≡ Some (output_counted t)
      → w' ≡ set (set w (7 * m + p) l) (8 * m + l) 1 → os' ≡ set os t.outputs l → OutputMade m p l w os t w' os' r
  no_output : get_or (set w (7 * m + p) l) (8 * m + l) 0 ≡ 0 → length os ≤ t.outputs → r ≡ None → w' ≡ set w (7 * m + p) l → os' ≡ os
      → OutputMade m p l w os t w' os' r

-- ---- the same of a draft
-- where no entry is made: the driver table had no room for the pin; or it has the pin, and the tally is that of the table
pub data Stands (p : Driver) (d d' : Draft) : Type 0 where
  no_pin : length d.drivers.now < 3 * length (drivers_of d ++ (p ∷ [])) → Stands p d d'
  pinned : Table d.at d.work.now d'.drivers.now d'.tally → drivers_of d' ≡ drivers_of d ++ (p ∷ []) → SameEnds d.tally d'.tally → Stands p d d'

pub record AddsFlop (m room cell place : ℕ) (d d' : Draft) (r : Option (Unit {0})) : Type 0 where
  pub loans : SameLoans d d'
  pub made : FlopMade m d.at room cell place d.work.now d.drivers.now d.tally d'.work.now d'.drivers.now (draft.counted r d'.tally)
  pub kept : r ≡ None → Stands (Dff cell) d d'

pub record AddsRam (m room cell place p : ℕ) (d d' : Draft) (r : Option (Unit {0})) : Type 0 where
  pub loans : SameLoans d d'
  pub made : RamMade m d.at room cell place p d.work.now d.drivers.now d.tally d'.work.now d'.drivers.now (draft.counted r d'.tally)
  pub kept : r ≡ None → Stands (Ram cell) d d'

pub record AddsOutput (m p l : ℕ) (d : Draft) (os : List ℕ) (d' : Draft) (os' : List ℕ) (r : Option (Unit {0})) : Type 0 where
  pub loans : SameLoans d d'
  pub drivers : d'.drivers.now ≡ d.drivers.now
  pub made : OutputMade m p l d.work.now os d.tally d'.work.now os' (draft.counted r d'.tally)
  pub kept : r ≡ None → d'.tally ≡ d.tally
