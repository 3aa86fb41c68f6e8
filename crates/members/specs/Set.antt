-- What it is for words to hold an ordered set, and what its changes leave.
use Rattle.std.specs.Prelude.{◌≡◌, List, [], ℕ, ◌+◌, ◌*◌, ◌<◌, ◌≤◌, length, get_or}
use Rattle.laws.specs.Lists.{count, over, upto}
use Rattle.laws.specs.Sets.{insert, remove}
use Rattle.laws.specs.Words.{part}
use Rattle.laws.proofs.Sets.{Placed}

-- only words from a on and before b were changed
pub record Within (a b : ℕ) (w w' : List ℕ) : Type 0 where
  pub long : length w' ≡ length w
  pub before : (j : ℕ) → j < a → get_or w' j 0 ≡ get_or w j 0
  pub after : (j : ℕ) → b ≤ j → get_or w' j 0 ≡ get_or w j 0

-- n members from a on, numbers below cap, with their places
pub record SetIn (w : List ℕ) (a cap n : ℕ) : Type 0 where
  pub few : n ≤ cap
  pub room : cap ≤ 16777216
  pub long : a + 2 * cap ≤ length w
  pub once : (p : ℕ) → count p (part w a n) ≤ 1
  pub inside : (j : ℕ) → j < n → get_or w (a + j) 0 < cap
  pub places : Placed (part w (a + cap) cap) (part w a n)
  pub beyond : (j : ℕ) → n ≤ j → j < cap → get_or w (a + j) 0 ≡ 0

pub record Inserted (w : List ℕ) (a cap n x : ℕ) (w' : List ℕ) (n' : ℕ) : Type 0 where
  pub holds : SetIn w' a cap n'
  pub members : part w' a n' ≡ insert (part w a n) x
  pub kept : Within a (a + 2 * cap) w w'

pub record Removed (w : List ℕ) (a cap n x : ℕ) (w' : List ℕ) (n' : ℕ) : Type 0 where
  pub holds : SetIn w' a cap n'
  pub members : part w' a n' ≡ remove (part w a n) x
  pub kept : Within a (a + 2 * cap) w w'
  pub fewer : n' ≤ n

pub record InsertedAll (list w : List ℕ) (a cap : ℕ) (w' : List ℕ) (n' : ℕ) : Type 0 where
  pub holds : SetIn w' a cap n'
  pub members : part w' a n' ≡ over insert [] list
  pub kept : Within a (a + 2 * cap) w w'

pub record FilledUp (w : List ℕ) (a cap : ℕ) (w' : List ℕ) : Type 0 where
  pub holds : SetIn w' a cap cap
  pub members : part w' a cap ≡ upto cap
  pub kept : Within a (a + 2 * cap) w w'
