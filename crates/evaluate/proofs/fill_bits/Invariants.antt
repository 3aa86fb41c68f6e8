use Rattle.evaluate.specs.Bits.{Filling}
use Rattle.evaluate.proofs.fill_bits.Given as goal

abbrev pub invariant-loop-u : goal.invariant-loop-u
invariant-loop-u l = Filling l.drivers l.sources l.bits l.u
