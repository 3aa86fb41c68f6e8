-- A driver table after a row is written, and what it is for a table to hold a list of drivers.
use Rattle.std.specs.Prelude.{Some, ◌≡◌, List, ℕ, ◌+◌, ◌*◌, ◌<◌, ◌≤◌, length, get_or, set}
use Rattle.laws.specs.Words.{ZeroFrom}
use Rattle.rules.specs.declared.Driver.{Driver}
use Rattle.rules.specs.Graph.{driver_at}
use Rattle.rules.specs.Tables.{driver_words, decode_at}

abbrev pub word_of : Driver → ℕ → ℕ
word_of d i = get_or (driver_words d) i 0

-- three words of one row
unfoldable pub written : List ℕ → ℕ → Driver → List ℕ
written ws u d = set (set (set ws (3 * u) (word_of d 0)) (3 * u + 1) (word_of d 1)) (3 * u + 2) (word_of d 2)

-- the words of a table are those of a list of drivers, and 0 past them
pub record Holds (ws : List ℕ) (ds : List Driver) : Type 0 where
  pub long : 3 * length ds ≤ length ws
  pub row : (u : ℕ) → u < length ds → decode_at ws u ≡ Some (driver_at ds u)
  pub rest : ZeroFrom ws (3 * length ds)
