-- What is settled after a stage that hands pins on.
use Rattle.std.specs.Prelude.{◌≡◌, List, ℕ, ◌+◌, ◌*◌, ◌<◌, ◌≤◌, length, get_or, if◌then◌else◌}
use Rattle.laws.specs.Lists.{member, over}
use Rattle.laws.specs.Sets.{remove}
use Rattle.laws.specs.Words.{part}
use Rattle.members.specs.Set.{SetIn}

-- the pins ps are stops too, the endpoints es have left, and all else below 8 * m is 0
pub record Settled (m ends left : ℕ) (ps es w w' : List ℕ) (n : ℕ) : Type 0 where
  pub long : length w' ≡ length w
  pub marks : (j : ℕ) → j < m → get_or w' j 0 ≡ 0
  pub stops : (p : ℕ) → p < m → get_or w' (m + p) 0 ≡ (if member p ps then 1 else get_or w (m + p) 0)
  pub middle : (j : ℕ) → 2 * m ≤ j → j < 8 * m → get_or w' j 0 ≡ 0
  pub lefts : SetIn w' (8 * m) ends n
  pub members : part w' (8 * m) n ≡ over remove (part w (8 * m) left) es
