-- How deep pins and endpoints lie in the whole graph, and which stage that means.
use Rattle.std.specs.Prelude.{None, ◌≡◌, List, [], ◌∷◌, ℕ, suc, ◌+◌, ◌≤◌, ◌<◌, max, get_or, if◌then◌else◌}
use Rattle.laws.specs.Tests.{◌≤?◌}
use Rattle.laws.specs.Lists.{count}
use Rattle.laws.specs.Search.{level}
use Rattle.rules.specs.Graph.{Graph}
use Rattle.rules.specs.Stages.{inputs, back, order, within, Row, row}

-- a pin's level in the whole graph: how many gates the longest way back from it has
abbrev pub whole_level : Graph → ℕ → ℕ
whole_level g u = level (back g []) u

abbrev pub largest : (ℕ → ℕ) → List ℕ → ℕ
largest h [] = 0
largest h (x ∷ xs) = max (h x) (largest h xs)

-- the largest level of an endpoint's inputs
abbrev pub depth : Graph → ℕ → ℕ
depth g e = largest (whole_level g) (inputs g e)

-- the number, from 0, of the first stage whose upper end is at least n
abbrev pub first_reaching : ℕ → List Row → ℕ
first_reaching n [] = 0
first_reaching n (r ∷ rs) = if within r.upper n then 0 else suc (first_reaching n rs)

-- the number, from 0, of the first split level that is at least n; past all of them, how many there are
abbrev pub first_at_least : ℕ → List ℕ → ℕ
first_at_least n [] = 0
first_at_least n (b ∷ bs) = if n ≤? b then 0 else suc (first_at_least n bs)

abbrev pub row_at : List Row → ℕ → Row
row_at rows k = get_or rows k (row 0 None (record { handed = []; taken = [] }))

-- levels within a stage that begins at lower: a pin handed on before lies at or below it; any other pin visited has its level counted from there
pub record Leveled (g : Graph) (lower : ℕ) (left before : List ℕ) : Type 0 where
  pub passed : (u : ℕ) → 0 < count u (order g left before) → 0 < count u before → whole_level g u ≤ lower
  pub ahead : (u : ℕ) → 0 < count u (order g left before) → count u before ≡ 0 → level (back g before) u + lower ≡ whole_level g u
