-- Each call's number is that of a refusal, so it is at most 15.
use mathlib.Core.Bool.{Bool}
use mathlib.Core.List.{List, [], ◌∷◌}
use Prim.Native.Nat.{ℕ, ◌≤◌}
use native.Mathlib.Omega.{arith}
use borrow.Author.Rules.{rules}
use Rattle.laws.specs.Tests.{or_else, refuse}
use Rattle.rules.specs.declared.NetlistCounts.{NetlistCounts}
use Rattle.rules.specs.declared.Rooms.{Rooms}
use Rattle.rules.specs.declared.GraphCounts.{GraphCounts}
use Rattle.rules.specs.Stages.{Stage}
use Rattle.rules.specs.Tables.{GraphWords}
use Rattle.rules.specs.Answers.{fanouts_number, evaluate_number, traverse_number, check_graph_number, split_number, stages_number, full_number, subset_number, endpoint_number, input_number, stage_input_number, BuildLengths, build_number}
use Rattle.rules.specs.Netlist.{Netlist}
use Rattle.rules.specs.Build.{Walk, still, root, gated, strange, far, walk, clocks}
use Rattle.rules.specs.Refusals.{tables_number, walk_number, first_number, clocks_number, loop_free, mark_free, check_number, netlist_number}
use Rattle.subsets.specs.Answer.{staged_number}
use Rattle.tells.proofs.Numbers.{or_few, refuse_few}

-- ---- calls on a driver table
pub fanouts_few : (pins : ℕ) (ws : List ℕ) (s l : ℕ) → fanouts_number pins ws s l ≤ 15
unfolding fanouts_number
fanouts_few pins ws s l = search (rules, or_few, refuse_few)

pub evaluate_few : (pins : ℕ) (ws sources : List ℕ) (bits : ℕ) → evaluate_number pins ws sources bits ≤ 15
unfolding evaluate_number
evaluate_few pins ws sources bits = search (rules, or_few, refuse_few)

pub traverse_few : (pins : ℕ) (ws : List ℕ) (given : Bool) (roots handed : List ℕ) (room work : ℕ) → traverse_number pins ws given roots handed room work ≤ 15
unfolding traverse_number
traverse_few pins ws given roots handed room work = search (rules, or_few, refuse_few)

-- ---- calls on a whole graph
pub check_few : (c : GraphCounts) (t : GraphWords) (w : ℕ) → check_graph_number c t w ≤ 15
unfolding check_graph_number
check_few c t w = search (rules, or_few, refuse_few)

pub split_few : (c : GraphCounts) (t : GraphWords) (chosen before : List ℕ) (level handed taken w : ℕ) → split_number c t chosen before level handed taken w ≤ 15
unfolding split_number
split_few c t chosen before level handed taken w = search (rules, or_few, refuse_few)

pub stages_few : (c : GraphCounts) (t : GraphWords) (splits : List ℕ) (rows long handed taken w : ℕ) → stages_number c t splits rows long handed taken w ≤ 15
unfolding stages_number
stages_few c t splits rows long handed taken w = search (rules, or_few, refuse_few)

-- ---- calls that read no driver
pub full_few : (c : GraphCounts) (taken : ℕ) → full_number c taken ≤ 15
unfolding full_number
full_few c taken = search (rules, or_few, refuse_few)

pub subset_few : (s : Stage) (is : List ℕ) (handed taken : ℕ) → subset_number s is handed taken ≤ 15
unfolding subset_number
subset_few s is handed taken = search (rules, or_few, refuse_few)

pub endpoint_few : (c : GraphCounts) (e : ℕ) → endpoint_number c e ≤ 15
unfolding endpoint_number
endpoint_few c e = search (rules, or_few, refuse_few)

pub staged_few : (c : GraphCounts) (s : Stage) (i : ℕ) → staged_number c s i ≤ 15
unfolding staged_number
staged_few c s i = search (rules, or_few, refuse_few)

pub input_few : (c : GraphCounts) (t : GraphWords) (e i : ℕ) → input_number c t e i ≤ 15
unfolding input_number
input_few c t e i = search (rules, or_few, refuse_few)

pub stage_input_few : (c : GraphCounts) (t : GraphWords) (s : Stage) (k i : ℕ) → stage_input_number c t s k i ≤ 15
unfolding stage_input_number
stage_input_few c t s k i = search (rules, or_few, refuse_few)

-- ---- building
walk_few : (w : Walk) → walk_number w ≤ 15
walk_few still = omega arith
walk_few (root q e) = omega arith
walk_few (gated w e) = walk_few w
walk_few strange = omega arith
walk_few far = omega arith

first_few : (n : Netlist) (ps : List ℕ) → first_number n ps ≤ 15
first_few n [] = omega arith
first_few n (p ∷ ps) = or_few 15 (walk_number (walk n p)) (first_number n ps) (walk_few (walk n p)) (first_few n ps)

tables_few : (n : Netlist) → tables_number n ≤ 15
tables_few n = search (rules, or_few, refuse_few)

last_few : (n : Netlist) → or_else (refuse 7 (loop_free n)) (clocks_number n) ≤ 15
last_few n = or_few 15 (refuse 7 (loop_free n)) (clocks_number n) (refuse_few 15 7 (loop_free n) (omega arith)) (first_few n (clocks n))

netlist_few : (n : Netlist) → netlist_number n ≤ 15
netlist_few n = or_few 15 (check_number n) (refuse 10 (mark_free n))
    (or_few 15 (tables_number n) (or_else (refuse 7 (loop_free n)) (clocks_number n)) (tables_few n) (last_few n))
    (refuse_few 15 10 (mark_free n) (omega arith))

pub build_few : (c : NetlistCounts) (r : Rooms) (n : Netlist) (l : BuildLengths) → build_number c r n l ≤ 15
unfolding build_number
build_few c r n l = let h : netlist_number n ≤ 15 = netlist_few n in search (rules, or_few, refuse_few)
