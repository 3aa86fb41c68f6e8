-- The net rule on pins and nets alone.
use Rattle.std.specs.Prelude.{Bool, not, ◌&&◌, ◌||◌, List, ℕ, ◌+◌, ◌-◌, ◌*◌, ◌<◌, ◌≤◌, length, get_or, ◌==◌}
use Rattle.laws.specs.Tests.{◌<?◌}
use Rattle.pins.specs.Words.{pin_at}

-- what a net's word says of the net
abbrev pub driven : List ℕ → ℕ → ℕ → ℕ → Bool
driven pins size driver net =
    (driver <? 2) || ((driver - 2 <? size) && (pin_at pins 3 (driver - 2) == 1) && (pin_at pins 4 (driver - 2) == net))

abbrev pub net_driven : List ℕ → ℕ → List ℕ → ℕ → Bool
net_driven pins size nets net = driven pins size (get_or nets net 0) net

abbrev pub driving : List ℕ → List ℕ → ℕ → Bool
driving pins nets p = not (pin_at pins 3 p == 1) || (get_or nets (pin_at pins 4 p) 0 == 2 + p)

-- each pin lies in the table and has a net in range
pub record Netted (pins : List ℕ) (size : ℕ) (nets : List ℕ) : Type 0 where
  pub long : 5 * size ≤ length pins
  pub net : (p : ℕ) → p < size → pin_at pins 4 p < length nets
