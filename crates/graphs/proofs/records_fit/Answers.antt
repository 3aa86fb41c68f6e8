use Rattle.graphs.proofs.Steps.{clear_half, clear_rest, pins_unfit, literals_tell}
use borrow.Author.Tests.{not-true, not-false}
use native.Mathlib.Omega.{arith}
use Rattle.graphs.proofs.records_fit.Goals as goal

pub pins_match-requires : goal.pins_match-requires
pins_match-requires c = record { pins_value = search; rows = search; clear = search clear_half }

pub returns-then-not-pins_match : goal.returns-then-not-pins_match
returns-then-not-pins_match c = search (pins_unfit, not-true)

pub literals_fit-requires : goal.literals_fit-requires
literals_fit-requires c = record { clear = search (clear_rest, not-false); dffs_long = omega arith; rams_long = omega arith }

pub returns : goal.returns
returns c = search (literals_tell, not-false)
