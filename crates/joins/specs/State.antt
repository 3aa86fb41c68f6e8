-- How the work words hold the set and the readers of the rules' `Joining`, and what reading and joining leave.
use Rattle.std.specs.Prelude.{◌≡◌, Bool, List, ℕ, ◌+◌, ◌*◌, ◌<◌, ◌≤◌, length, get_or}
use Rattle.laws.specs.Tests.{◌≤?◌}
use Rattle.laws.specs.Lists.{over}
use Rattle.laws.specs.Words.{part}
use Rattle.rules.specs.Stages.{Joining, read}
use Rattle.cuts.proofs.Joining.{join_by}
use Rattle.walk.specs.State.{goes}
use Rattle.members.specs.Set.{Within, SetIn}

-- the n members from 6 * m on are the set, and the words from 5 * m on the readers
pub record Holds (m : ℕ) (w : List ℕ) (n : ℕ) (s : Joining) : Type 0 where
  pub members : part w (6 * m) n ≡ s.set
  pub readers : (p : ℕ) → p < m → get_or w (5 * m + p) 0 ≡ s.readers p

-- what it leaves that readers of the pins os are done
pub record ReadAll (m : ℕ) (w : List ℕ) (n : ℕ) (os w' : List ℕ) (n' : ℕ) : Type 0 where
  pub holds : SetIn w' (6 * m) m n'
  pub joins : (s : Joining) → Holds m w n s → Holds m w' n' (over read s os)
  pub kept : Within (5 * m) (8 * m) w w'

-- the level of a pin, as its word says it, is at most d
abbrev pub low_in : ℕ → List ℕ → ℕ → ℕ → Bool
low_in m w d u = get_or w (4 * m + u) 0 ≤? d

-- what it leaves that the pins us join, those that are low
pub record JoinedAll (ws : List ℕ) (m : ℕ) (before : List ℕ) (d : ℕ) (w : List ℕ) (n : ℕ) (us w' : List ℕ) (n' : ℕ) : Type 0 where
  pub holds : SetIn w' (6 * m) m n'
  pub joins : (s : Joining) → Holds m w n s → Holds m w' n' (over (join_by (goes ws m before) (low_in m w d)) s us)
  pub kept : Within (5 * m) (8 * m) w w'

-- count endpoints below e lie in a table from a place on
pub record Takens (t : List ℕ) (first count e : ℕ) : Type 0 where
  pub long : first + count ≤ length t
  pub inside : (j : ℕ) → j < count → get_or t (first + j) 0 < e
