-- The search for an input, one literal after the other.
use Rattle.std.specs.Prelude.{Bool, ◌&&◌, ℕ, List, ◌==◌}
use Rattle.laws.specs.Tests.{◌<?◌, one}
use Rattle.rules.specs.declared.EndTables.{EndTables}
use Rattle.rules.specs.Stages.{Stage}
use Rattle.reads.specs.Reads.{Lent, ins_of}

abbrev pub wanted : ℕ → ℕ → ℕ → Bool
wanted p seen i = (0 <? p) && (seen == i)

abbrev pub passed : ℕ → ℕ
passed p = one (0 <? p)

-- the lent tables as the literals of endpoints are read off them
abbrev pub LentIn : EndTables → Type 0
LentIn e = Lent e.counts e.outputs.now e.dffs.now e.rams.now

abbrev pub ins_in : EndTables → ℕ → List ℕ
ins_in e k = ins_of e.counts e.outputs.now e.dffs.now e.rams.now k

abbrev pub stage_of : List ℕ → List ℕ → Stage
stage_of handed taken = record { handed = handed; taken = taken }
