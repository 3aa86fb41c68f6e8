-- What is said of stages in a row.
use Rattle.std.specs.Prelude.{Option, None, Some, ◌≡◌, List, [], ◌∷◌, ◌++◌, ℕ, ◌-◌}
use Rattle.laws.specs.Lists.{over}
use Rattle.laws.specs.Sets.{remove}
use Rattle.rules.specs.Stages.{Row}

-- upper − lower, and none where there is no upper end
abbrev pub difference : ℕ → Option ℕ → Option ℕ
difference a (Some b) = Some (b - a)
difference a None = None

-- of each in turn, with the endpoints left and the pins handed on before it
abbrev pub InTurn : (List ℕ → List ℕ → Row → Type 0) → List ℕ → List ℕ → List Row → Type 0
InTurn P left before [] = Unit {0}
InTurn P left before (r ∷ rs) = P left before r × InTurn P (over remove left r.stage.taken) (before ++ r.stage.handed) rs

-- their ends are the levels, in order from the first lower end; the last has no upper end, and may come before the levels are used up
abbrev pub Ladder : ℕ → List ℕ → List Row → Type 0
Ladder a bs [] = ⊥
Ladder a bs (r ∷ []) = (r.lower ≡ a) × (r.upper ≡ None)
Ladder a [] (r ∷ s ∷ rs) = ⊥
Ladder a (b ∷ bs) (r ∷ s ∷ rs) = (r.lower ≡ a) × (r.upper ≡ Some b) × Ladder b bs (s ∷ rs)
