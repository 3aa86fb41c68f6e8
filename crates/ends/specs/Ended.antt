-- What step 3 leaves of the tables.
use Rattle.std.specs.Prelude.{◌≡◌, Option, Some, None, List, map, ℕ, ◌*◌, ◌<◌, length}
use Rattle.laws.specs.Lists.{flat, over, upto}
use Rattle.laws.specs.Words.{SameBelow, filled}
use Rattle.rules.specs.declared.Literal.{Literal}
use Rattle.rules.specs.declared.Tally.{Tally}
use Rattle.rules.specs.Netlist.{Netlist, kind_of, dff, ram}
use Rattle.rules.specs.Tables.{record_words, ram_words}
use Rattle.rules.specs.Build.{Ends, end_cell, start3, step2, step3, record_of, ram_row_of}
use Rattle.drafts.specs.declared.Draft.{Draft}
use Rattle.drafts.specs.Table.{Table, drafted, counted, SameLoans}
use Rattle.flops.specs.Flopped.{FlopDone}
use Rattle.memories.specs.Remembered.{RamDone}

-- step 3 after so many cells
unfoldable pub ends_at : Netlist → ℕ → Ends
ends_at n i = over (end_cell n (step2 n).lits) (start3 (step2 n)) (upto i)

-- what one cell leaves: a flip-flop, a RAM, or a cell of which step 3 makes nothing
pub data CellDone (n : Netlist) (c : ℕ) (d : Draft) (dffs rams : List ℕ) (d' : Draft) (dffs' rams' : List ℕ) (r : Option Literal) : Type 0 where
  flopped : kind_of n c ≡ dff → FlopDone n c d dffs d' dffs' r → rams' ≡ rams → CellDone n c d dffs rams d' dffs' rams' r
  remembered : kind_of n c ≡ ram → RamDone n c d rams d' rams' r → dffs' ≡ dffs → CellDone n c d dffs rams d' dffs' rams' r
  passed : (kind_of n c ≡ dff → ⊥) → (kind_of n c ≡ ram → ⊥) → (l : Literal) → r ≡ Some l → d' ≡ d → dffs' ≡ dffs → rams' ≡ rams
      → CellDone n c d dffs rams d' dffs' rams' r

-- the records of all flip-flops, and the rows of all RAMs, in words
abbrev pub all_records : Netlist → List ℕ
all_records n = flat record_words (map (record_of (step2 n) (step3 n)) (step2 n).flops)

abbrev pub all_rows : Netlist → List ℕ
all_rows n = flat ram_words (map (ram_row_of n (step2 n) (step3 n)) (step3 n).rams)

-- all of step 3 is there; or a table has no room for what the whole needs
pub data EndsDone (n : Netlist) (at : ℕ) (w ws : List ℕ) (t : Tally) (dffs rams w' ws' dffs' rams' : List ℕ) (r : Option Tally) : Type 0 where
  done : (t' : Tally) → r ≡ Some t' → Table at w' ws' t' → drafted ws' t' ≡ (step3 n).drivers → t'.outputs ≡ t.outputs → t'.dffs ≡ t.dffs
      → t'.rams ≡ length (step3 n).rams → SameBelow at w w' → length ws' ≡ length ws → dffs' ≡ filled (all_records n) (length dffs) → rams' ≡ filled (all_rows n) (length rams)
      → EndsDone n at w ws t dffs rams w' ws' dffs' rams' r
  no_pins : r ≡ None → length ws < 3 * length (step3 n).drivers → length w' ≡ length w → length ws' ≡ length ws → length dffs' ≡ length dffs → length rams' ≡ length rams
      → EndsDone n at w ws t dffs rams w' ws' dffs' rams' r
  no_rams : r ≡ None → length rams < 123 * length (step3 n).rams → length w' ≡ length w → length ws' ≡ length ws → length dffs' ≡ length dffs → length rams' ≡ length rams
      → EndsDone n at w ws t dffs rams w' ws' dffs' rams' r

-- the same of a draft
pub record AddsEnds (n : Netlist) (d : Draft) (dffs rams : List ℕ) (d' : Draft) (dffs' rams' : List ℕ) (r : Option (Unit {0})) : Type 0 where
  pub loans : SameLoans d d'
  pub ends : EndsDone n d.at d.work.now d.drivers.now d.tally dffs rams d'.work.now d'.drivers.now dffs' rams' (counted r d'.tally)
