-- What it is for words from `base` on to be the marks of a set of numbers below `limit`.
use Rattle.std.specs.Prelude.{◌≡◌, Bool, true, false, ◌&&◌, List, ℕ, ◌+◌, ◌<◌, ◌≤◌, length, get_or, set}
use Rattle.laws.specs.Tests.{one}
use Rattle.laws.specs.Lists.{count, member}
use Rattle.rules.specs.Refusals.{below, no_repeat}

-- no mark yet
pub record Clear (w : List ℕ) (base limit : ℕ) : Type 0 where
  pub long : base + limit ≤ length w
  pub none : (p : ℕ) → p < limit → get_or w (base + p) 0 ≡ 0

-- the marks of the numbers of a list in which none repeats, where all other words are as they were
pub record Marks (w₀ w : List ℕ) (base limit : ℕ) (seen : List ℕ) : Type 0 where
  pub long : base + limit ≤ length w
  pub marks : (p : ℕ) → p < limit → get_or w (base + p) 0 ≡ one (member p seen)
  pub inside : (p : ℕ) → 0 < count p seen → p < limit
  pub once : (p : ℕ) → count p seen ≤ 1
  pub before : (j : ℕ) → j < base → get_or w j 0 ≡ get_or w₀ j 0
  pub after : (j : ℕ) → base + limit ≤ j → get_or w j 0 ≡ get_or w₀ j 0
  pub same_length : length w ≡ length w₀

-- what joining leaves
pub data Marked (w : List ℕ) (base limit p : ℕ) (w' : List ℕ) (r : Bool) : Type 0 where
  joined : p < limit → get_or w (base + p) 0 ≡ 0 → w' ≡ set w (base + p) 1 → r ≡ true → Marked w base limit p w' r
  outside : limit ≤ p → w' ≡ w → r ≡ false → Marked w base limit p w' r
  repeated : p < limit → (get_or w (base + p) 0 ≡ 0 → ⊥) → w' ≡ w → r ≡ false → Marked w base limit p w' r

-- what a whole list leaves: its marks, or that it is no set of numbers below the limit
pub data MarkedAll (list w : List ℕ) (base limit : ℕ) (w' : List ℕ) (r : Bool) : Type 0 where
  a_set : Marks w w' base limit list → (below limit list && no_repeat list) ≡ true → r ≡ true → MarkedAll list w base limit w' r
  no_set : (below limit list && no_repeat list) ≡ false → length w' ≡ length w → r ≡ false → MarkedAll list w base limit w' r
