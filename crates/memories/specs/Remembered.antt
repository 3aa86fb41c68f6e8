-- What step 3 makes of a RAM: its clocks traced in list order, 32 ANDs, and its row.
use Rattle.std.specs.Prelude.{◌≡◌, Option, Some, None, OnSome, Bool, true, false, ◌&&◌, List, ℕ, zero, suc, ◌+◌, ◌-◌, ◌*◌, ◌<◌, ◌≤◌, length, get_or, if◌then◌else◌, ◌==◌}
use Rattle.laws.specs.Tests.{◌<?◌, ◌≤?◌}
use Rattle.laws.specs.Lists.{count}
use Rattle.laws.proofs.Indices.{place}
use Rattle.rules.specs.declared.Driver.{Driver}
use Rattle.rules.specs.declared.Literal.{Literal}
use Rattle.rules.specs.Netlist.{Netlist, #R_CLK, #W_CLK}
use Rattle.rules.specs.Graph.{Made, and_of}
use Rattle.rules.specs.Build.{step2}
use Rattle.tallies.specs.Counted.{ram_counted}
use Rattle.words.proofs.Tables.{Writing}
use Rattle.roles.specs.Reading.{either_in, cell_pins, entry_of}
use Rattle.drafts.specs.declared.Draft.{Draft}
use Rattle.drafts.specs.Table.{drivers_of, SameLoans, Adds}
use Rattle.activity.specs.Traced.{start_at, entry_traced}
use Rattle.flops.specs.Flopped.{Both}
use Rattle.rows.specs.Words.{plain_word}

-- ---- the clocks
-- the clock at k in list order
abbrev pub clock_at : Netlist → ℕ → ℕ → Option ℕ
clock_at n c k = entry_of (either_in n.pins #R_CLK #W_CLK (cell_pins n.starts n.list c)) k

-- both, in list order
abbrev pub clocks_made : Netlist → List Driver → ℕ → Both
clocks_made n ds c = record {
  drivers = (entry_traced n (entry_traced n ds (clock_at n c 0)).drivers (clock_at n c 1)).drivers;
  first = (entry_traced n ds (clock_at n c 0)).lit;
  second = (entry_traced n (entry_traced n ds (clock_at n c 0)).drivers (clock_at n c 1)).lit;
}

-- the first of them is the read clock
abbrev pub reads_first : List ℕ → Option ℕ → Bool
reads_first pins (Some p) = get_or pins (5 * p + 1) 0 == #R_CLK
reads_first pins None = true

abbrev pub turned : Bool → Both → Both
turned true b = b
turned false b = record { drivers = b.drivers; first = b.second; second = b.first }

-- the read clock's activity, then the write clock's
abbrev pub ram_clocks : Netlist → List Driver → ℕ → Both
ram_clocks n ds c = turned (reads_first n.pins (clock_at n c 0)) (clocks_made n ds c)

-- ---- the write enables: after i of them, the drivers and the last literal
abbrev pub bits_made : List Driver → ℕ → (ℕ → ℕ) → ℕ → Made
bits_made ds w f zero = start_at ds w
bits_made ds w f (suc i) = and_of (bits_made ds w f i).drivers (f i) w

pub record BitsDone (d : Draft) (from l : ℕ) (rams : List ℕ) (d' : Draft) (rams' : List ℕ) (r : Option Literal) : Type 0 where
  pub step : Adds (bits_made (drivers_of d) l (λ i. get_or rams (from + i) 0) 32) d d' r
  pub words : OnSome r (Writing rams from (λ i. (bits_made (drivers_of d) l (λ j. get_or rams (from + j) 0) (suc i)).lit) 32 rams')
  pub long : length rams' ≡ length rams

-- ---- the row
abbrev pub enable_of : Netlist → ℕ → ℕ → ℕ
enable_of n c i = plain_word n c (59 + i)

-- from the drivers and the activities of the clocks on
abbrev pub row_made : Netlist → ℕ → List Driver → ℕ → ℕ → Made
row_made n c ds write i = bits_made ds write (enable_of n c) i

-- word j: the read clock's activity, the ANDs of the write enables, and the rest as the pins say
unfoldable pub row_word : Netlist → ℕ → List Driver → ℕ → ℕ → ℕ → ℕ
row_word n c ds read write j =
    if j == 0 then read else (if (59 ≤? j) && (j <? 91) then (row_made n c ds write (suc (j - 59))).lit else plain_word n c j)

pub record ClockedDone (n : Netlist) (c k : ℕ) (d : Draft) (read write : ℕ) (rams : List ℕ) (d' : Draft) (rams' : List ℕ) (r : Option Literal) : Type 0 where
  pub step : Adds (row_made n c (drivers_of d) write 32) d d' r
  pub row : OnSome r (Writing rams (123 * k) (row_word n c (drivers_of d) read write) 123 rams')
  pub long : length rams' ≡ length rams

-- the clocks traced first
abbrev pub ram_made : Netlist → List Driver → ℕ → ℕ → Made
ram_made n ds c i = row_made n c (ram_clocks n ds c).drivers (ram_clocks n ds c).second i

abbrev pub ram_word : Netlist → List Driver → ℕ → ℕ → ℕ
ram_word n ds c j = row_word n c (ram_clocks n ds c).drivers (ram_clocks n ds c).first (ram_clocks n ds c).second j

pub record RowDone (n : Netlist) (c k : ℕ) (d : Draft) (rams : List ℕ) (d' : Draft) (rams' : List ℕ) (r : Option Literal) : Type 0 where
  pub step : Adds (ram_made n (drivers_of d) c 32) d d' r
  pub row : OnSome r (Writing rams (123 * k) (ram_word n (drivers_of d) c) 123 rams')
  pub long : length rams' ≡ length rams

-- one RAM more is counted
abbrev pub with_more : Draft → Draft
with_more d = record d { tally = ram_counted d.tally }

-- a row that step 2 has begun, a new one, or no room for a new one
pub data RamDone (n : Netlist) (c : ℕ) (d : Draft) (rams : List ℕ) (d' : Draft) (rams' : List ℕ) (r : Option Literal) : Type 0 where
  begun : 0 < count c (step2 n).rams → RowDone n c (place c (step2 n).rams) d rams d' rams' r → RamDone n c d rams d' rams' r
  fresh : count c (step2 n).rams ≡ 0 → 123 * (d.tally.rams + 1) ≤ length rams → RowDone n c d.tally.rams (with_more d) rams d' rams' r
      → RamDone n c d rams d' rams' r
  short : count c (step2 n).rams ≡ 0 → length rams < 123 * (d.tally.rams + 1) → r ≡ None → SameLoans d d' → length d'.work.now ≡ length d.work.now
      → length d'.drivers.now ≡ length d.drivers.now → length rams' ≡ length rams → RamDone n c d rams d' rams' r
