-- The state of a walk in its work words, w. With one word for each of the m pins from 0: the marks from 0, the stops from m, the pins of the
-- stack from 2 * m, the bottom first, and the pins listed from 3 * m. h is the stack's height, k how many pins are listed.
use Rattle.std.specs.Prelude.{◌≡◌, Bool, true, List, [], ◌∷◌, ℕ, suc, ◌+◌, ◌-◌, ◌*◌, ◌/◌, ◌<◌, ◌≤◌, length, get_or}
use Rattle.laws.specs.Tests.{one}
use Rattle.laws.specs.Lists.{member, over}
use Rattle.laws.specs.Words.{part, stack_of, count_below}
use Rattle.laws.proofs.Visits.{visit_at}
use Rattle.laws.proofs.Stacks.{Grows}
use Rattle.rules.specs.Stages.{back}
use Rattle.rules.specs.Refusals.{drivers_fit, no_repeat}
use Rattle.rules.specs.Answers.{drivers_graph}

-- where a walk goes from a pin of a driver table ws of m pins, pin 0 with them, and not past handed-on pins
abbrev pub goes : List ℕ → ℕ → List ℕ → ℕ → List ℕ
goes ws m handed = back (drivers_graph (m - 1) ws) handed

-- the pins listed
abbrev pub list_of : List ℕ → ℕ → ℕ → List ℕ
list_of w m k = part w (3 * m) k

-- the stops are the pins of a list
pub record Stops (w : List ℕ) (m : ℕ) (handed : List ℕ) : Type 0 where
  pub stop : (p : ℕ) → p < m → get_or w (m + p) 0 ≡ one (member p handed)

-- what `set_stops` leaves: the stops of the handed-on pins, all else as it was, and whether those are a set
pub record StopsSet (m : ℕ) (handed w w' : List ℕ) (r : Bool) : Type 0 where
  pub answer : r ≡ no_repeat handed
  pub long : length w' ≡ length w
  pub stops : Stops w' m handed
  pub before : (j : ℕ) → j < m → get_or w' j 0 ≡ get_or w j 0
  pub after : (j : ℕ) → 2 * m ≤ j → get_or w' j 0 ≡ get_or w j 0

-- the pins listed have marks, no other pin has one, and none is listed twice
pub record Listing (m : ℕ) (w : List ℕ) (k : ℕ) : Type 0 where
  pub long : 4 * m ≤ length w
  pub count : k ≤ m
  pub exact : count_below (list_of w m k) m ≡ k
  pub inside : (j : ℕ) → j < k → get_or w (3 * m + j) 0 < m
  pub marks : (p : ℕ) → p < m → get_or w p 0 ≡ one (member p (list_of w m k))
  pub after : (j : ℕ) → 3 * m + k ≤ j → j < 4 * m → get_or w j 0 ≡ 0

-- what holds between the turns of a walk: each stop is 0 or 1, the stack's pins grow from the top to the bottom, and none of them is listed
pub record Going (ws : List ℕ) (m : ℕ) (w : List ℕ) (h k : ℕ) : Type 0 where
  pub low : 1 ≤ m
  pub fits : drivers_fit ws (m - 1) ≡ true
  pub drivers_long : 3 * m ≤ length ws
  pub flags : (p : ℕ) → p < m → get_or w (m + p) 0 ≤ 1
  pub listing : Listing m w k
  pub height : h ≤ m
  pub stack : Grows 0 (list_of w m k) m (stack_of w (2 * m) h)
  pub above : (j : ℕ) → 2 * m + h ≤ j → j < 3 * m → get_or w j 0 ≡ 0

-- what a walk does not change: the stops, and the words that are the caller's
pub record Kept (m : ℕ) (w w' : List ℕ) : Type 0 where
  pub long : length w' ≡ length w
  pub stops : (p : ℕ) → p < m → get_or w' (m + p) 0 ≡ get_or w (m + p) 0
  pub rest : (j : ℕ) → 4 * m ≤ j → get_or w' j 0 ≡ get_or w j 0

-- the top of the stack plus 1, and 0 of an empty one
unfoldable pub top_of : List ℕ → ℕ
top_of [] = 0
top_of (x ∷ s) = suc x

-- a number that falls with each turn
unfoldable pub left : ℕ → List ℕ → ℕ → ℕ → ℕ
left m w h k = (m - k) * suc m + top_of (stack_of w (2 * m) h)

-- what the visits of the stack's pins lead to
abbrev pub goal : List ℕ → ℕ → List ℕ → List ℕ → ℕ → ℕ → List ℕ
goal ws m handed w h k = over (visit_at (goes ws m handed)) (list_of w m k) (stack_of w (2 * m) h)

-- what a turn leaves: the state holds again, the list that the rest of the walk leads to is the same, and less is left to do
pub record Turned (ws : List ℕ) (m : ℕ) (w : List ℕ) (h k : ℕ) (w' : List ℕ) (h' k' : ℕ) : Type 0 where
  pub going : Going ws m w' h' k'
  pub kept : Kept m w w'
  pub same : (handed : List ℕ) → Stops w m handed → goal ws m handed w' h' k' ≡ goal ws m handed w h k
  pub less : left m w' h' k' < left m w h k

-- the words of a pin's driver: its tag, and the pins of a gate's operands
abbrev pub tag_of : List ℕ → ℕ → ℕ
tag_of ws p = get_or ws (3 * p) 0

abbrev pub first_of : List ℕ → ℕ → ℕ
first_of ws p = get_or ws (3 * p + 1) 0 / 2

abbrev pub second_of : List ℕ → ℕ → ℕ
second_of ws p = get_or ws (3 * p + 2) 0 / 2

-- a gate's operands have smaller pins, and none is pin 0
pub record Operands (ws : List ℕ) (m : ℕ) : Type 0 where
  pub first_low : (p : ℕ) → p < m → tag_of ws p ≡ 1 → 1 ≤ first_of ws p
  pub first_less : (p : ℕ) → p < m → tag_of ws p ≡ 1 → first_of ws p < p
  pub second_low : (p : ℕ) → p < m → tag_of ws p ≡ 1 → 1 ≤ second_of ws p
  pub second_less : (p : ℕ) → p < m → tag_of ws p ≡ 1 → second_of ws p < p

-- what `next` answers of the pin p: an operand that has no mark, the first before the second, or 0 where there is none
pub data Next (ws : List ℕ) (m : ℕ) (w : List ℕ) (p r : ℕ) : Type 0 where
  source : (tag_of ws p ≡ 1 → ⊥) → r ≡ 0 → Next ws m w p r
  stopped : (get_or w (m + p) 0 ≡ 0 → ⊥) → r ≡ 0 → Next ws m w p r
  done : tag_of ws p ≡ 1 → (get_or w (first_of ws p) 0 ≡ 0 → ⊥) → (get_or w (second_of ws p) 0 ≡ 0 → ⊥) → r ≡ 0 → Next ws m w p r
  first : tag_of ws p ≡ 1 → get_or w (m + p) 0 ≡ 0 → get_or w (first_of ws p) 0 ≡ 0 → r ≡ first_of ws p → Next ws m w p r
  second : tag_of ws p ≡ 1 → get_or w (m + p) 0 ≡ 0 → (get_or w (first_of ws p) 0 ≡ 0 → ⊥) → get_or w (second_of ws p) 0 ≡ 0 → r ≡ second_of ws p → Next ws m w p r

-- what a visit of the pin p leaves: the stack is empty again, and the pins of p's visit are listed, past any list of pins that the stops are
pub record Visited (ws : List ℕ) (m : ℕ) (w : List ℕ) (k p : ℕ) (w' : List ℕ) (k' : ℕ) : Type 0 where
  pub going : Going ws m w' 0 k'
  pub kept : Kept m w w'
  pub list : (handed : List ℕ) → Stops w m handed → list_of w' m k' ≡ visit_at (goes ws m handed) (list_of w m k) p

-- what the visits of a list of pins leave
pub record AllVisited (ws : List ℕ) (m : ℕ) (roots w : List ℕ) (k : ℕ) (w' : List ℕ) (k' : ℕ) : Type 0 where
  pub going : Going ws m w' 0 k'
  pub kept : Kept m w w'
  pub list : (handed : List ℕ) → Stops w m handed → list_of w' m k' ≡ over (visit_at (goes ws m handed)) (list_of w m k) roots

-- what `forget` leaves: no marks and no pins listed, and all else as it was
pub record Forgotten (m : ℕ) (w w' : List ℕ) : Type 0 where
  pub long : length w' ≡ length w
  pub marks : (j : ℕ) → j < m → get_or w' j 0 ≡ 0
  pub between : (j : ℕ) → m ≤ j → j < 3 * m → get_or w' j 0 ≡ get_or w j 0
  pub list : (j : ℕ) → 3 * m ≤ j → j < 4 * m → get_or w' j 0 ≡ 0
  pub rest : (j : ℕ) → 4 * m ≤ j → get_or w' j 0 ≡ get_or w j 0
