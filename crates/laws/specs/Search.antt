-- Depth-first search over any function `nx` that says where one goes from a place.
use Rattle.std.specs.Prelude.{List, [], ◌∷◌, ◌++◌, ℕ, zero, suc, ◌<◌, max, if◌then◌else◌}
use Rattle.laws.specs.Lists.{count, member, over}

-- ---- where places only lead to smaller ones: the visit order, each place once, behind all that it leads to
-- the list after a visit of u, where `out` was listed before; the number bounds how deep the visit goes
abbrev pub visit : (ℕ → List ℕ) → ℕ → List ℕ → ℕ → List ℕ
visit nx zero out u = out
visit nx (suc f) out u = if member u out then out else over (visit nx f) out (nx u) ++ (u ∷ [])

-- the visits of several places in turn
abbrev pub visits : (ℕ → List ℕ) → List ℕ → List ℕ
visits nx us = over (λ out u. visit nx (suc u) out u) [] us

-- the larger of the levels, and one more
abbrev pub above : (ℕ → ℕ) → List ℕ → ℕ
above h [] = 0
above h (x ∷ xs) = max (suc (h x)) (above h xs)

abbrev pub level_by : (ℕ → List ℕ) → ℕ → ℕ → ℕ
level_by nx zero u = 0
level_by nx (suc f) u = above (level_by nx f) (nx u)

-- how many steps the longest way from u has
abbrev pub level : (ℕ → List ℕ) → ℕ → ℕ
level nx u = level_by nx (suc u) u

-- ---- where they may lead anywhere: a place is entered, what it leads to is searched, and it is left
pub data Event : Type 0 where
  enter leave : ℕ → Event

abbrev pub entered : List Event → List ℕ
entered [] = []
entered (enter u ∷ es) = u ∷ entered es
entered (leave u ∷ es) = entered es

abbrev pub left : List Event → List ℕ
left [] = []
left (enter u ∷ es) = left es
left (leave u ∷ es) = u ∷ left es

abbrev pub explore : (ℕ → List ℕ) → ℕ → List Event → ℕ → List Event
explore nx zero out u = out
explore nx (suc f) out u = if member u (entered out) then out else over (explore nx f) (out ++ (enter u ∷ [])) (nx u) ++ (leave u ∷ [])

-- a way of one step or more
pub data Chain (nx : ℕ → List ℕ) : ℕ → ℕ → Type 0 where
  step : {u o : ℕ} → 0 < count o (nx u) → Chain nx u o
  more : {u o w : ℕ} → 0 < count o (nx u) → Chain nx o w → Chain nx u w
