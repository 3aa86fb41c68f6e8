-- Parts of lent words, and what a lent table holds.
use Rattle.std.specs.Prelude.{◌≡◌, List, [], ◌∷◌, ◌++◌, ℕ, zero, suc, ◌+◌, ◌-◌, ◌<◌, ◌≤◌, length, get_or, take, drop, replicate}
use Rattle.laws.specs.Tests.{one}
use Rattle.laws.specs.Lists.{member}

-- the n words from a on
unfoldable pub part : List ℕ → ℕ → ℕ → List ℕ
part w a n = take n (drop a w)

-- a stack of height h that lies from m on, the top first
unfoldable pub stack_of : List ℕ → ℕ → ℕ → List ℕ
stack_of w m zero = []
stack_of w m (suc h) = get_or w (m + h) 0 ∷ stack_of w m h

-- how many of the numbers below m are in the list
unfoldable pub count_below : List ℕ → ℕ → ℕ
count_below l zero = 0
count_below l (suc m) = count_below l m + one (member m l)

-- each word is below m
unfoldable pub AllBelow : ℕ → List ℕ → Type 0
AllBelow m l = (j : ℕ) → j < length l → get_or l j 0 < m

-- the words from a on are 0
unfoldable pub ZeroFrom : List ℕ → ℕ → Type 0
ZeroFrom w a = (j : ℕ) → a ≤ j → get_or w j 0 ≡ 0

-- the same words below a, in a table as long
pub record SameBelow (a : ℕ) (w w' : List ℕ) : Type 0 where
  pub long : length w' ≡ length w
  pub same : (j : ℕ) → j < a → get_or w' j 0 ≡ get_or w j 0

-- a table of a room's length in which nothing is used
abbrev pub zeros : ℕ → List ℕ
zeros room = replicate room 0

-- a table of a room's length that begins with these words; past them it is 0
abbrev pub filled : List ℕ → ℕ → List ℕ
filled ws room = ws ++ replicate (room - length ws) 0
