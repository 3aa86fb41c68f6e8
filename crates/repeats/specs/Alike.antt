-- Two entries of the cells' lists that have the same cell, name and bit.
use Rattle.std.specs.Prelude.{◌≡◌, Bool, true, false, List, ℕ, ◌+◌, ◌*◌, ◌<◌, ◌≤◌, length, get_or, set}
use Rattle.pins.specs.Words.{pin_at}

abbrev pub code_of : List ℕ → ℕ → ℕ
code_of pins p = 32 * pin_at pins 1 p + pin_at pins 2 p

-- the cell and the code of an entry
abbrev pub cell_on : List ℕ → List ℕ → ℕ → ℕ
cell_on list pins i = pin_at pins 0 (get_or list i 0)

abbrev pub code_on : List ℕ → List ℕ → ℕ → ℕ
code_on list pins i = code_of pins (get_or list i 0)

-- what a stamp leaves
pub data Stamped (w : List ℕ) (at cell : ℕ) (w' : List ℕ) (r : Bool) : Type 0 where
  of_top : cell ≡ 0 → w' ≡ w → r ≡ true → Stamped w at cell w' r
  again : (cell ≡ 0 → ⊥) → get_or w at 0 ≡ cell → r ≡ false → Stamped w at cell w' r
  new : (cell ≡ 0 → ⊥) → (get_or w at 0 ≡ cell → ⊥) → w' ≡ set w at cell → r ≡ true → Stamped w at cell w' r

-- entries that are pins with small names and bits, in rising order of their cells
pub record Sorted (list pins : List ℕ) : Type 0 where
  pub long : 5 * length list ≤ length pins
  pub below : (j : ℕ) → j < length list → get_or list j 0 < length list
  pub name : (j : ℕ) → j < length list → pin_at pins 1 (get_or list j 0) < 17
  pub bit : (j : ℕ) → j < length list → pin_at pins 2 (get_or list j 0) < 32
  pub rise : (i j : ℕ) → i < j → j < length list → cell_on list pins i ≤ cell_on list pins j

-- no two, or two, of a cell other than the top
pub data Looked (list pins : List ℕ) (r : Bool) : Type 0 where
  apart : ((i j : ℕ) → i < j → j < length list → (cell_on list pins j ≡ 0 → ⊥) → cell_on list pins i ≡ cell_on list pins j → code_on list pins i ≡ code_on list pins j → ⊥)
      → r ≡ true → Looked list pins r
  alike : (i j : ℕ) → i < j → j < length list → (cell_on list pins j ≡ 0 → ⊥) → cell_on list pins i ≡ cell_on list pins j → code_on list pins i ≡ code_on list pins j
      → r ≡ false → Looked list pins r
