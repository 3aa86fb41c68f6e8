use Rattle.joins.proofs.Reading.{ReadingIns}
use Rattle.joins.proofs.read_inputs.Given as goal

abbrev pub invariant-loop-i : goal.invariant-loop-i
invariant-loop-i l = ReadingIns l.ends.counts l.ends.outputs.now l.ends.dffs.now l.ends.rams.now l.m l.e l.k l.initial.work l.size l.work l.n l.i
