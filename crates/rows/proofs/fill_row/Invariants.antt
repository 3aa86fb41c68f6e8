use Prim.Native.Nat.{◌≤◌}
use lib.ListN.{length}
use mathlib.Core.Path.{◌≡◌}
use Rattle.rules.specs.Tables.{netlist_in}
use Rattle.rows.specs.Words.{plain_word}
use Rattle.words.proofs.Tables.{Writing}
use Rattle.rows.proofs.fill_row.Given as goal

abbrev pub invariant-loop-j : goal.invariant-loop-j
invariant-loop-j l = Writing l.initial.rams l.from (plain_word (netlist_in l.n) l.cell) l.j l.rams × (l.j ≤ 123) × (length l.rams ≡ length l.initial.rams)
