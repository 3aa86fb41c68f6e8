use Rattle.roles.proofs.Entries.{Searching}
use Rattle.roles.proofs.cell_entry.Given as goal

abbrev pub invariant-loop-p : goal.invariant-loop-p
invariant-loop-p l = Searching l.own l.pins l.a l.b l.k l.p-index l.left
