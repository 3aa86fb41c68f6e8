use native.Mathlib.Omega.{arith}
use mathlib.Core.Path.{refl}
use lib.ListN.{length-set}
use Rattle.rules.specs.Tables.{netlist_in}
use Rattle.memories.proofs.Remembering.{row_done}
use Rattle.memories.proofs.clocked_row.Goals as goal

pub write_bits-requires : goal.write_bits-requires
write_bits-requires c = record { «open» = c.requires.«open»; from_in_bounds = simp length-set (omega (arith, c.requires.k_in_bounds)) }

pub returns : goal.returns
returns c = let a = c.args in row_done (netlist_in a.n) a.cell a.k a.draft.now _ _ _ _ _ _ c.write_bits.new.draft _ c.requires.k_in_bounds c.fill_row.ensures refl c.write_bits.ensures
