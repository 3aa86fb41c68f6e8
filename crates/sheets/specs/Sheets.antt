-- The netlist tables of a text that was read: from its numbers, one line after the other, and where each line's begin. Behind the last
-- line's start stands where the numbers end.
use Rattle.std.specs.Prelude.{◌≡◌, Result, Ok, Err, IfOk, Bool, ◌&&◌, List, [], ◌∷◌, ◌++◌, ℕ, zero, suc, ◌+◌, ◌-◌, ◌≤◌, get_or, if◌then◌else◌}
use Rattle.laws.specs.Tests.{◌≤?◌}
use Rattle.texts.specs.declared.Reading.{Reading}
use Rattle.texts.specs.declared.BrokenText.{BrokenText}
use Rattle.texts.specs.declared.BrokenText.TheVariants.{TooLong, Line}
use Rattle.sheets.specs.declared.TextRefusal.{TextRefusal}
use Rattle.sheets.specs.declared.TextRefusal.TheVariants.{Bounds, Broken}
use Rattle.texts.specs.Text.{stored}

-- k words from a on
unfoldable pub words_from : List ℕ → ℕ → ℕ → List ℕ
words_from ns a zero = []
words_from ns a (suc k) = get_or ns a 0 ∷ words_from ns (a + 1) k

-- the kinds of n cells: the first number of each line
unfoldable pub kinds_from : List ℕ → List ℕ → ℕ → List ℕ
kinds_from ns ss zero = []
kinds_from ns ss (suc i) = kinds_from ns ss i ++ (get_or ns (get_or ss i 0) 0 ∷ [])

-- where the lists of n cells begin: a number less for each kind
unfoldable pub starts_from : List ℕ → ℕ → List ℕ
starts_from ss zero = []
starts_from ss (suc i) = starts_from ss i ++ ((get_or ss i 0 - i) ∷ [])

-- the pins of a cell: the other numbers of its line
abbrev pub cell_words : List ℕ → List ℕ → ℕ → List ℕ
cell_words ns ss i = words_from ns (get_or ss i 0 + 1) (get_or ss (i + 1) 0 - (get_or ss i 0 + 1))

unfoldable pub list_from : List ℕ → List ℕ → ℕ → List ℕ
list_from ns ss zero = []
list_from ns ss (suc i) = list_from ns ss i ++ cell_words ns ss i

-- a net's word: its number, or 2 more than its pin; a pin past all bounds is the largest word
abbrev pub net_word : ℕ → ℕ → ℕ
net_word k p = if k ≤? 1 then k else (if p ≤? 4294967293 then p + 2 else 4294967295)

-- the nets of n lines from one on
unfoldable pub nets_from : List ℕ → List ℕ → ℕ → ℕ → List ℕ
nets_from ns ss first zero = []
nets_from ns ss first (suc i) =
    nets_from ns ss first i ++ (net_word (get_or ns (get_or ss (first + i) 0) 0) (get_or ns (get_or ss (first + i) 0 + 1) 0) ∷ [])

-- ---- what a reading is answered with before document 01's tests: a text that is too long is refused, one with more than 512 cells, pins
-- or nets, and one with a broken line
abbrev pub small : Reading → Bool
small r = (r.cells ≤? 512) && (r.pins ≤? 512) && (r.nets ≤? 512)

abbrev pub accepted : Result Reading BrokenText → Result Reading TextRefusal
accepted (Ok r) = if small r then Ok r else Err Bounds
accepted (Err TooLong) = Err Bounds
accepted (Err (Line r fault)) = Err (Broken r.lines fault)

-- an accepted reading has at most 512 of each
pub record Accepted (read : Result Reading BrokenText) (result : Result Reading TextRefusal) : Type 0 where
  pub is : result ≡ accepted read
  pub cells : IfOk result (λ r. r.cells ≤ 512)
  pub pins : IfOk result (λ r. r.pins ≤ 512)
  pub nets : IfOk result (λ r. r.nets ≤ 512)

-- words stored from a place on, and the place behind them
pub record Copied (ns : List ℕ) (a k : ℕ) (out : List ℕ) (at : ℕ) (out' : List ℕ) (r : ℕ) : Type 0 where
  pub is : out' ≡ stored out at (words_from ns a k)
  pub place : r ≡ at + k
