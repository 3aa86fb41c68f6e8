use Rattle.graphs.specs.Parts.{mark_matches}
use Rattle.laws.proofs.Scans.{Scanned}
use Rattle.graphs.proofs.marks_match.Given as goal

abbrev pub invariant-loop-u : goal.invariant-loop-u
invariant-loop-u l = Scanned (mark_matches l.drivers l.work l.base l.tag) l.m l.u
