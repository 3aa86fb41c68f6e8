use lib.ListN.{length}
use mathlib.Core.Path.{◌≡◌}
use Rattle.memories.proofs.Remembering.{Enabling}
use Rattle.memories.proofs.write_bits.Given as goal

abbrev pub invariant-loop-i : goal.invariant-loop-i
invariant-loop-i l = Enabling l.initial.draft l.from l.w.word l.initial.rams l.draft l.rams l.i l.lit × (length l.rams ≡ length l.initial.rams)
