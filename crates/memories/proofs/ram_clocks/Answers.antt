use native.Mathlib.Omega.{arith}
use Rattle.rules.specs.Tables.{netlist_in}
use Rattle.roles.proofs.Fitting.{laid}
use Rattle.memories.proofs.Remembering.{ram_clocks_stop, clocks_so, clocks-turned}
use Rattle.memories.proofs.ram_clocks.Goals as goal

pub reads_first-so-requires : goal.reads_first-so-requires
reads_first-so-requires c = record { laid = laid _ _ _ _ _ c.requires.going.grounded.fits; cell_in_bounds = omega (arith, c.requires.cell_in_bounds, c.requires.going.grounded.fits.starts_long) }

pub returns-in_err-both : goal.returns-in_err-both
returns-in_err-both c = let a = c.args in rw c.from_residual.ensures (ram_clocks_stop (netlist_in a.n) a.draft.now a.cell _ c.in_err-both.ensures)

pub returns-then-so : goal.returns-then-so
returns-then-so c = let a = c.args in clocks_so (netlist_in a.n) a.draft.now a.cell _ _ _ c.reads_first-so.ensures c.in_ok-both.ensures c.if-so.true

pub returns : goal.returns
returns c = let a = c.args in clocks-turned (netlist_in a.n) a.draft.now a.cell _ _ _ c.reads_first-so.ensures c.in_ok-both.ensures c.if-so.false
