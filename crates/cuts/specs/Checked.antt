-- What refusal 12 leaves of a graph, as far as the stages need it.
use Rattle.std.specs.Prelude.{◌≡◌, ℕ, ◌≤◌, ◌<◌}
use Rattle.laws.specs.Lists.{count}
use Rattle.rules.specs.declared.Driver.TheVariants.{Constant}
use Rattle.rules.specs.Graph.{pin_of, gate, Graph, driver_of, pin_count}
use Rattle.rules.specs.Stages.{reads}

pub record Checked (g : Graph) : Type 0 where
  pub zero_constant : driver_of g 0 ≡ Constant
  -- a gate's operand pins are at least 1 and less than its own pin
  pub operands_fit : (u a b : ℕ) → driver_of g u ≡ gate a b → (0 < pin_of a) × (pin_of a < u) × (0 < pin_of b) × (pin_of b < u)
  -- no endpoint reads past the last pin
  pub reads_fit : (e l : ℕ) → 0 < count l (reads g e) → pin_of l ≤ pin_count g
