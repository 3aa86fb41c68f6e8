-- Demand 2 of the call that builds: its tables read back, and the graph check.
use mathlib.Core.Path.{◌≡◌, refl, ◌∙◌, ap}
use mathlib.Core.Bool.{true, ◌&&◌}
use mathlib.Core.List.{List}
use Prim.Native.Nat.{ℕ, ◌+◌, ◌-◌, ◌*◌}
use native.Mathlib.Omega.{arith}
use lib.ListN.{length, get_or}
use lib.Seq.{take_at}
use borrow.Author.Tests.{leb-true, le-leb}
use Rattle.laws.specs.Tests.{◌≤?◌, or_else, refuse}
use Rattle.laws.specs.Lists.{flat, upto}
use Rattle.laws.specs.Words.{zeros, filled}
use Rattle.laws.proofs.Tests.{and_r, not_refused, last_refused, or_zero}
use Rattle.laws.proofs.Bags.{map_same}
use Rattle.laws.proofs.Words.{filled_at}
use Rattle.rules.specs.declared.Tally.{Tally}
use Rattle.rules.specs.declared.Rooms.{Rooms}
use Rattle.rules.specs.Netlist.{Netlist}
use Rattle.rules.specs.Graph.{Graph}
use Rattle.rules.specs.Build.{graph_of, literals_of, tally}
use Rattle.rules.specs.Tables.{driver_words, decode_at, record_words, ram_words, words_from, record_in, ram_in, driver_or, drivers_in, graph_in}
use Rattle.rules.specs.Bounds.{max_rows, max_graph_pins, max_fanouts, netlist_within, rooms_within}
use Rattle.rules.specs.Refusals.{netlist_number, room_fits, Accepted}
use Rattle.rules.specs.Answers.{BuildLengths, netlist_long, rooms_long, build_number}
use Rattle.rules.specs.Tables.{counts_of, words_of}
use Rattle.rules.proofs.Tables.{five_true}
use Rattle.rules.proofs.Accepts.{accepted_iff}
use Rattle.builds.proofs.Passes12.{built_back, built_checks}
use Rattle.demands.specs.Demand2.{tables_left, OfBuild}
use Rattle.demands.proofs.Demand2.{demand2}

-- ---- words past those that are used do not matter
decode-filled : (ws : List ℕ) (room u : ℕ) → decode_at (filled ws room) u ≡ decode_at ws u
unfolding decode_at
decode-filled ws room u = rw (filled_at ws room (3 * u), filled_at ws room (3 * u + 1), filled_at ws room (3 * u + 2))

drivers_filled : (ws : List ℕ) (room pins : ℕ) → drivers_in (filled ws room) pins ≡ drivers_in ws pins
drivers_filled ws room pins = map_same (λ u. driver_or (decode_at (filled ws room) u)) (λ u. driver_or (decode_at ws u)) (upto (pins + 1)) (λ u m. ap driver_or (decode-filled ws room u))

record_filled : (ws : List ℕ) (room k : ℕ) → record_in (filled ws room) k ≡ record_in ws k
record_filled ws room k = rw (filled_at ws room (3 * k), filled_at ws room (3 * k + 1), filled_at ws room (3 * k + 2))

part_filled : (ws : List ℕ) (room a m : ℕ) → words_from (filled ws room) a m ≡ words_from ws a m
part_filled ws room a m = map_same (λ i. get_or (filled ws room) (a + i) 0) (λ i. get_or ws (a + i) 0) (upto m) (λ i w. filled_at ws room (a + i))

ram_filled : (ws : List ℕ) (room k : ℕ) → ram_in (filled ws room) k ≡ ram_in ws k
ram_filled ws room k = rw (
  filled_at ws room (123 * k),
  part_filled ws room (123 * k + 1) 13,
  part_filled ws room (123 * k + 14) 32,
  part_filled ws room (123 * k + 46) 13,
  part_filled ws room (123 * k + 59) 32,
  part_filled ws room (123 * k + 91) 32,
)

module _ (n : Netlist) (l : BuildLengths) where
  abbrev g : Graph
  g = graph_of n

  graph_left : graph_in (counts_of (graph_of n)) (tables_left n l) ≡ graph_in (counts_of (graph_of n)) (words_of (graph_of n))
  graph_left = rw (
    drivers_filled (flat driver_words g.drivers) l.drivers (counts_of g).pins,
    take_at g.outputs (zeros (l.outputs - length g.outputs)) (length g.outputs) refl,
    map_same (record_in (filled (flat record_words g.dffs) l.dffs)) (record_in (flat record_words g.dffs)) (upto (length g.dffs)) (λ k m. record_filled (flat record_words g.dffs) l.dffs k),
    map_same (ram_in (filled (flat ram_words g.rams) l.rams)) (ram_in (flat ram_words g.rams)) (upto (length g.rams)) (λ k m. ram_filled (flat ram_words g.rams) l.rams k),
  )

-- ---- what is within its rooms is within the bounds
module _ (t : Tally) (r : Rooms) (within : rooms_within r ≡ true) (fits : room_fits t r ≡ true) where
  abbrev bounds : ((r.pins ≤? max_graph_pins) ≡ true) × ((r.outputs ≤? max_rows) ≡ true) × ((r.dffs ≤? max_rows) ≡ true) × ((r.rams ≤? max_rows) ≡ true) × ((r.fanouts ≤? max_fanouts) ≡ true)
  bounds = five_true (r.pins ≤? max_graph_pins) (r.outputs ≤? max_rows) (r.dffs ≤? max_rows) (r.rams ≤? max_rows) (r.fanouts ≤? max_fanouts) within

  abbrev sizes : ((t.pins ≤? r.pins) ≡ true) × ((t.outputs ≤? r.outputs) ≡ true) × ((t.dffs ≤? r.dffs) ≡ true) × ((t.rams ≤? r.rams) ≡ true) × ((2 * t.gates ≤? r.fanouts) ≡ true)
  sizes = five_true (t.pins ≤? r.pins) (t.outputs ≤? r.outputs) (t.dffs ≤? r.dffs) (t.rams ≤? r.rams) (2 * t.gates ≤? r.fanouts) fits

  join : (a b c : ℕ) → (a ≤? b) ≡ true → (b ≤? c) ≡ true → (a ≤? c) ≡ true
  join a b c x y = le-leb a c (omega (arith, leb-true a b x, leb-true b c y))

  counts_within : ((t.pins ≤? max_graph_pins) && (t.outputs ≤? max_rows) && (t.dffs ≤? max_rows) && (t.rams ≤? max_rows)) ≡ true
  counts_within = rw (
    join t.pins r.pins max_graph_pins sizes.0 bounds.0,
    join t.outputs r.outputs max_rows sizes.1 bounds.1,
    join t.dffs r.dffs max_rows sizes.2 bounds.2,
    join t.rams r.rams max_rows sizes.3 bounds.3,
  )

-- ---- a call that is not refused
pub of_build : OfBuild
unfolding build_number
of_build c r n l z =
    let a = not_refused 0 (netlist_within c && rooms_within r) (or_else (refuse 2 (netlist_long c n && rooms_long c r l)) (or_else (netlist_number n) (refuse 11 (room_fits (tally (graph_of n)) r)))) z in
    let b = not_refused 1 (netlist_long c n && rooms_long c r l) (or_else (netlist_number n) (refuse 11 (room_fits (tally (graph_of n)) r))) a.1 in
    let d = or_zero (netlist_number n) (refuse 11 (room_fits (tally (graph_of n)) r)) b.1 in
    let acc : Accepted n = (accepted_iff n).0 d.0 in
    let within = counts_within (tally (graph_of n)) r (and_r (netlist_within c) (rooms_within r) a.0) (last_refused 10 (room_fits (tally (graph_of n)) r) d.1) in
    record {
      meaning = λ env. demand2 n acc env;
      graph_left = graph_left n l ∙ built_back n acc;
      literals_left = λ p. filled_at (literals_of n) l.literals p;
      checked = λ work h. built_checks n acc work within h;
    }
