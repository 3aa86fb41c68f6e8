use native.Mathlib.Omega.{arith}
use Rattle.rules.specs.Tables.{netlist_in}
use Rattle.roles.proofs.Fitting.{laid}
use Rattle.drafts.proofs.Drafting.{loans_refl}
use Rattle.activity.proofs.Tracing.{entry_clocked, entry_traced_lem, entry_absent}
use borrow.Author.Rules.{rules}
use Rattle.activity.proofs.clock_activity.Goals as goal

pub cell_entry-found-requires : goal.cell_entry-found-requires
cell_entry-found-requires c = record { laid = search laid; cell_in_bounds = omega (arith, c.requires.going.grounded.fits.starts_long) }

pub activity-requires : goal.activity-requires
activity-requires c = record { going = search rules; clocked = search (entry_clocked, c.requires.going, c.requires.a_value, c.requires.b_value) }

pub returns-in-Some : goal.returns-in-Some
returns-in-Some c = let a = c.args in record {
  loans = c.activity.ensures.loans;
  extends = entry_traced_lem (netlist_in a.n) _ _ _ _ a.cell a.a a.b a.k _ c.cell_entry-found.ensures _ c.in-Some.is _ _ _ c.activity.ensures.extends;
}

pub returns-in-None : goal.returns-in-None
returns-in-None c = let a = c.args in record {
  loans = loans_refl a.draft.now;
  extends = entry_absent (netlist_in a.n) _ _ _ _ a.cell a.a a.b a.k _ c.cell_entry-found.ensures c.in-None.is c.requires.going.table;
}
