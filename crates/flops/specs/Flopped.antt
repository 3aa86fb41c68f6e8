-- What step 3 makes of a flip-flop: the drivers, and the literals of next and enable.
use Rattle.std.specs.Prelude.{◌≡◌, Option, Some, None, IfSome, OnSome, List, ℕ, ◌*◌, ◌<◌, length, get_or}
use Rattle.laws.specs.Lists.{first_or}
use Rattle.laws.proofs.Indices.{place}
use Rattle.rules.specs.declared.Driver.{Driver}
use Rattle.rules.specs.declared.Record.{Record}
use Rattle.rules.specs.declared.Literal.{Literal}
use Rattle.rules.specs.Netlist.{Netlist, size, named, #D, #CLK, #S, #R}
use Rattle.rules.specs.Graph.{Made, and_of, or_not}
use Rattle.rules.specs.Tables.{record_words}
use Rattle.rules.specs.Build.{step2}
use Rattle.rules.specs.Refusals.{Accepted}
use Rattle.words.proofs.Tables.{Writing}
use Rattle.roles.specs.Reading.{Fits, either_in, cell_pins, entry_of}
use Rattle.drafts.specs.declared.Draft.{Draft}
use Rattle.drafts.specs.Table.{drivers_of, Adds}
use Rattle.drafts.specs.Layout.{Written}
use Rattle.activity.specs.Traced.{lits, start_at, entry_traced}
use Rattle.flops.specs.declared.Pair.{Pair}

-- what step 2 has written is there to be read
pub record Known (n : Netlist) (w : List ℕ) : Type 0 where
  pub accepted : Accepted n
  pub fits : Fits n
  pub wide : 8 * size n < length w
  pub written : Written n w (step2 n)

-- ---- two literals made one after the other
pub record Both : Type 0 where
  pub drivers : List Driver
  pub first : ℕ
  pub second : ℕ

-- "v or not s" and "u or not s"
abbrev pub both_set : List Driver → ℕ → ℕ → ℕ → Both
both_set ds v u s =
    record { drivers = (or_not (or_not ds v s).drivers u s).drivers; first = (or_not ds v s).lit; second = (or_not (or_not ds v s).drivers u s).lit }

-- "v and r" and "u or not r"
abbrev pub both_reset : List Driver → ℕ → ℕ → ℕ → Both
both_reset ds v u r =
    record { drivers = (or_not (and_of ds v r).drivers u r).drivers; first = (and_of ds v r).lit; second = (or_not (and_of ds v r).drivers u r).lit }

-- next-with-S, enable-with-S, next-with-R, enable-with-R, of the literals of D, the clock's activity, S and R
abbrev pub flop_both : List Driver → ℕ → ℕ → ℕ → ℕ → Both
flop_both ds d a s r = both_reset (both_set ds d a s).drivers (both_set ds d a s).first (both_set ds d a s).second r

-- the second of them, as a step gives it
abbrev pub second_of : Option Pair → Option Literal
second_of (Some p) = Some p.second
second_of None = None

pub record Doubles (b : Both) (d d' : Draft) (r : Option Pair) : Type 0 where
  pub step : Adds (start_at b.drivers b.second) d d' (second_of r)
  pub first : IfSome r (λ p. p.first.word ≡ b.first)

-- ---- a flip-flop cell
abbrev pub flop_clock : Netlist → List Driver → ℕ → Made
flop_clock n ds c = entry_traced n ds (entry_of (either_in n.pins #CLK #CLK (cell_pins n.starts n.list c)) 0)

abbrev pub flop_made : Netlist → List Driver → ℕ → Both
flop_made n ds c =
    flop_both (flop_clock n ds c).drivers (first_or 0 (lits n) (named n c #D)) (flop_clock n ds c).lit (first_or 1 (lits n) (named n c #S)) (first_or 1 (lits n) (named n c #R))

-- its record
abbrev pub flop_record : Netlist → List Driver → ℕ → Record
flop_record n ds c = record { next = (flop_made n ds c).first; enable = (flop_made n ds c).second; pin = (step2 n).flop_pin c }

-- all of it is made, and the record stands in the table; or there is no room for it
pub record FlopDone (n : Netlist) (c : ℕ) (d : Draft) (dffs : List ℕ) (d' : Draft) (dffs' : List ℕ) (r : Option Literal) : Type 0 where
  pub step : Adds (start_at (flop_made n (drivers_of d) c).drivers (flop_made n (drivers_of d) c).second) d d' r
  pub row : OnSome r (Writing dffs (3 * place c (step2 n).flops) (λ j. get_or (record_words (flop_record n (drivers_of d) c)) j 0) 3 dffs')
  pub long : length dffs' ≡ length dffs
