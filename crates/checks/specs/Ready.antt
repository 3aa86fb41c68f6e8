-- What the tests of a netlist leave, and where: with m pins the visits' marks lie from 0, words of the stack or the markers from m, the
-- events from 2 * m to 4 * m, and the caller's words behind them.
use Rattle.std.specs.Prelude.{Result, Ok, Err, ◌≡◌, Bool, ◌&&◌, List, ℕ, ◌+◌, ◌*◌, ◌<◌, ◌≤◌, length, get_or}
use Rattle.laws.specs.Tests.{◌≤?◌, or_else, refuse}
use Rattle.rules.specs.declared.NetlistCounts.{NetlistCounts}
use Rattle.rules.specs.declared.Refusal.{Refusal}
use Rattle.rules.specs.Netlist.{Netlist, size}
use Rattle.rules.specs.Bounds.{netlist_within}
use Rattle.rules.specs.Refusals.{loop_free, clocks_number, check_number, mark_free}
use Rattle.rules.specs.Answers.{done_of}
use Rattle.netlist.specs.Tables.{Long, long_by}
use Rattle.roles.specs.Reading.{Fits}
use Rattle.orders.specs.State.{Kept}
use Rattle.markers.specs.Marks.{LaidOut, Marked}

-- 1 and 2, by the lengths of the tables
unfoldable pub sizes_number : NetlistCounts → ℕ → ℕ → ℕ → ℕ → ℕ → ℕ → ℕ
sizes_number c kinds starts list pins nets work =
    or_else (refuse 1 (netlist_within c)) (refuse 2 (long_by c kinds starts list pins nets && (8 * c.pins + 1024 ≤? work)))

-- 7, then 8 and 9
unfoldable pub ready_number : Netlist → ℕ
ready_number n = or_else (refuse 7 (loop_free n)) (clocks_number n)

-- tables that 1 and 2 let pass, and work words that are 0
pub record Asked (kinds starts list pins work : List ℕ) : Type 0 where
  pub tables_long : Long kinds starts list pins work
  pub small : length list ≤ 1048576
  pub room : 4 * length list ≤ length work

-- 7 to 9 let pass: the events stand, and every pin is marked as left; words from 4 * m on are kept
pub record Ready (n : Netlist) (w w' : List ℕ) : Type 0 where
  pub number : ready_number n ≡ 0
  pub laid : LaidOut n w'
  pub left : (q : ℕ) → q < size n → get_or w' q 0 ≡ 2
  pub kept : Kept (size n) w w'

-- or one refuses; those words are kept too
pub record NotReady (n : Netlist) (w w' : List ℕ) (e : Refusal) : Type 0 where
  pub answer : Err e ≡ done_of (ready_number n)
  pub kept : Kept (size n) w w'

abbrev pub Readied : Netlist → List ℕ → List ℕ → Result (Unit {0}) Refusal → Type 0
Readied n w w' (Ok u) = Ready n w w'
Readied n w w' (Err e) = NotReady n w w' e

-- 3 to 9 let pass: the tables fit, the events stand, every pin is marked as left, and words from 4 * m on are 0
pub record Sound (n : Netlist) (w' : List ℕ) : Type 0 where
  pub number : check_number n ≡ 0
  pub fits : Fits n
  pub laid : LaidOut n w'
  pub left : (q : ℕ) → q < size n → get_or w' q 0 ≡ 2
  pub rest : (j : ℕ) → 4 * size n ≤ j → get_or w' j 0 ≡ 0

abbrev pub Checked : Netlist → List ℕ → Result (Unit {0}) Refusal → Type 0
Checked n w' (Ok u) = Sound n w'
Checked n w' (Err e) = Err e ≡ done_of (check_number n)

-- whether 10 lets pass; the markers stand from m on, all other words are kept, the events among them
pub record Tested (n : Netlist) (w w' : List ℕ) (r : Bool) : Type 0 where
  pub answer : r ≡ mark_free n
  pub marks : Marked n w w'
  pub laid : LaidOut n w'
