-- Which pins a split hands on, said without its counting of readers.
use Rattle.std.specs.Prelude.{Option, ◌≡◌, true, false, List, ℕ, ◌<◌}
use Rattle.laws.specs.Lists.{count, every}
use Rattle.rules.specs.Graph.{Graph}
use Rattle.rules.specs.Stages.{inputs, back, order, low}

-- p has a reader left: a gate visited whose level is above the difference, or an endpoint left that is not taken
pub data ReaderLeft (g : Graph) (left before : List ℕ) (d : Option ℕ) (p : ℕ) : Type 0 where
  gate_left : (u : ℕ) → 0 < count u (order g left before) → low g before d u ≡ false → 0 < count p (back g before u)
      → ReaderLeft g left before d p
  endpoint_left : (e : ℕ) → 0 < count e left → every (low g before d) (inputs g e) ≡ false → 0 < count p (inputs g e)
      → ReaderLeft g left before d p

pub record Onward (g : Graph) (left before : List ℕ) (d : Option ℕ) (p : ℕ) : Type 0 where
  pub visited : 0 < count p (order g left before)
  pub is_low : low g before d p ≡ true
  pub is_new : count p before ≡ 0
  pub reader : ReaderLeft g left before d p

-- an endpoint left that is not taken, and an input of it
pub record EndpointLeft (g : Graph) (left before : List ℕ) (d : Option ℕ) : Type 0 where
  pub endpoint : ℕ
  pub input : ℕ
  pub is_left : 0 < count endpoint left
  pub not_taken : every (low g before d) (inputs g endpoint) ≡ false
  pub is_input : 0 < count input (inputs g endpoint)
