use Rattle.flags.proofs.Passing.{PassingList}
use Rattle.flags.proofs.list_flags.Given as goal

abbrev pub invariant-loop-i : goal.invariant-loop-i
invariant-loop-i l = PassingList l.n.kinds.now l.n.starts.now l.n.list.now l.n.pins.now l.n.nets.now l.kind l.from l.count l.initial.draft l.draft l.i
