use native.Mathlib.Omega.{arith}
use Rattle.pins.proofs.Steps.{name_large, kind_in, allowed_by}
use Rattle.pins.proofs.pin_allowed.Goals as goal

pub returns-then-name-ge17 : goal.returns-then-name-ge17
returns-then-name-ge17 c = search name_large

pub kind_word-allows-requires : goal.kind_word-allows-requires
kind_word-allows-requires c = record { kind_bound = search kind_in; name_bound = omega arith }

pub returns : goal.returns
returns c = search allowed_by
