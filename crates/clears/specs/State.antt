-- The words that a split used, what clearing leaves of them, and what stays for the next split.
use Rattle.std.specs.Prelude.{◌≡◌, List, ℕ, ◌+◌, ◌*◌, ◌<◌, ◌≤◌, length, get_or, set, if◌then◌else◌}
use Rattle.laws.specs.Lists.{count, member, over}
use Rattle.laws.specs.Sets.{remove}
use Rattle.laws.specs.Words.{part}
use Rattle.walk.specs.State.{list_of, Listing}
use Rattle.members.specs.Set.{Within, SetIn}

-- after a split: k pins are listed, the set has size pins, and only pins listed have a level, readers or a place
pub record Used (m : ℕ) (w : List ℕ) (k size : ℕ) : Type 0 where
  pub listing : Listing m w k
  pub stack : (j : ℕ) → 2 * m ≤ j → j < 3 * m → get_or w j 0 ≡ 0
  pub holds : SetIn w (6 * m) m size
  pub levels : (p : ℕ) → p < m → count p (list_of w m k) ≡ 0 → get_or w (4 * m + p) 0 ≡ 0
  pub readers : (p : ℕ) → p < m → count p (list_of w m k) ≡ 0 → get_or w (5 * m + p) 0 ≡ 0
  pub places : (p : ℕ) → p < m → count p (list_of w m k) ≡ 0 → get_or w (7 * m + p) 0 ≡ 0
  pub long : 8 * m ≤ length w

unfoldable pub pin_cleared : List ℕ → ℕ → ℕ → List ℕ
pin_cleared w m u = set (set (set w (4 * m + u) 0) (5 * m + u) 0) (7 * m + u) 0

pub record PinsCleared (m : ℕ) (w : List ℕ) (k : ℕ) (w' : List ℕ) : Type 0 where
  pub levels : (p : ℕ) → p < m → get_or w' (4 * m + p) 0 ≡ (if member p (list_of w m k) then 0 else get_or w (4 * m + p) 0)
  pub readers : (p : ℕ) → p < m → get_or w' (5 * m + p) 0 ≡ (if member p (list_of w m k) then 0 else get_or w (5 * m + p) 0)
  pub places : (p : ℕ) → p < m → get_or w' (7 * m + p) 0 ≡ (if member p (list_of w m k) then 0 else get_or w (7 * m + p) 0)
  pub between : (j : ℕ) → 6 * m ≤ j → j < 7 * m → get_or w' j 0 ≡ get_or w j 0
  pub kept : Within (4 * m) (8 * m) w w'

-- the words of the walk, the levels, readers and the set are 0; the stops and what lies behind are as they were
pub record Cleared (m : ℕ) (w w' : List ℕ) : Type 0 where
  pub long : length w' ≡ length w
  pub marks : (j : ℕ) → j < m → get_or w' j 0 ≡ 0
  pub stops : (j : ℕ) → m ≤ j → j < 2 * m → get_or w' j 0 ≡ get_or w j 0
  pub middle : (j : ℕ) → 2 * m ≤ j → j < 8 * m → get_or w' j 0 ≡ 0
  pub rest : (j : ℕ) → 8 * m ≤ j → get_or w' j 0 ≡ get_or w j 0

-- the pins ps are stops too
pub record StopsAdded (m : ℕ) (ps w w' : List ℕ) : Type 0 where
  pub stops : (p : ℕ) → p < m → get_or w' (m + p) 0 ≡ (if member p ps then 1 else get_or w (m + p) 0)
  pub kept : Within m (2 * m) w w'

-- the endpoints es have left
pub record Left (m ends left : ℕ) (es w w' : List ℕ) (n : ℕ) : Type 0 where
  pub holds : SetIn w' (8 * m) ends n
  pub members : part w' (8 * m) n ≡ over remove (part w (8 * m) left) es
  pub kept : Within (8 * m) (8 * m + 2 * ends) w w'
