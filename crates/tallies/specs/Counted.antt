-- One more of each sort.
use Rattle.std.specs.Prelude.{ℕ, ◌+◌}
use Rattle.laws.specs.Tests.{one}
use Rattle.rules.specs.declared.Driver.{Driver}
use Rattle.rules.specs.declared.Tally.{Tally}
use Rattle.rules.specs.Build.{is_gate}

abbrev pub gates_of : Driver → ℕ
gates_of d = one (is_gate d)

abbrev pub pin_counted : Driver → Tally → Tally
pin_counted d t = record { pins = t.pins + 1; gates = t.gates + gates_of d; outputs = t.outputs; dffs = t.dffs; rams = t.rams }

abbrev pub output_counted : Tally → Tally
output_counted t = record { pins = t.pins; gates = t.gates; outputs = t.outputs + 1; dffs = t.dffs; rams = t.rams }

abbrev pub dff_counted : Tally → Tally
dff_counted t = record { pins = t.pins; gates = t.gates; outputs = t.outputs; dffs = t.dffs + 1; rams = t.rams }

abbrev pub ram_counted : Tally → Tally
ram_counted t = record { pins = t.pins; gates = t.gates; outputs = t.outputs; dffs = t.dffs; rams = t.rams + 1 }
