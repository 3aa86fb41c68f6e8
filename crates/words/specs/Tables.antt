-- What lent tables of words hold after words were written to them, and tests of whole tables.
use Rattle.std.specs.Prelude.{Bool, true, false, ◌&&◌, List, [], ◌∷◌, ◌++◌, ℕ, ◌+◌, length, take, drop, ◌==◌}
use Rattle.laws.specs.Lists.{every}

-- the table t with the words ws from a on; the rest is kept
unfoldable pub written : List ℕ → ℕ → List ℕ → List ℕ
written t a ws = take a t ++ (ws ++ drop (a + length ws) t)

-- two tables are equal, word by word
unfoldable pub same_words : List ℕ → List ℕ → Bool
same_words [] [] = true
same_words [] (y ∷ ys) = false
same_words (x ∷ xs) [] = false
same_words (x ∷ xs) (y ∷ ys) = (x == y) && same_words xs ys

-- nothing of a table is used
unfoldable pub all_zero : List ℕ → Bool
all_zero s = every (λ x. x == 0) s
