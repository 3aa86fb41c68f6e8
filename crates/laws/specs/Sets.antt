-- The ordered set: insertion order, and removal puts the last member in the removed place.
use Rattle.std.specs.Prelude.{List, [], ◌∷◌, ◌++◌, ℕ, if◌then◌else◌, ◌==◌}
use Rattle.laws.specs.Lists.{member}

-- a new member joins at the end
abbrev pub insert : List ℕ → ℕ → List ℕ
insert s x = if member x s then s else s ++ (x ∷ [])

-- the last of z and the rest, and what stands before it
abbrev pub last_of : ℕ → List ℕ → ℕ
last_of z [] = z
last_of z (w ∷ ws) = last_of w ws

abbrev pub init_of : ℕ → List ℕ → List ℕ
init_of z [] = []
init_of z (w ∷ ws) = z ∷ init_of w ws

-- the last member moved to the front
abbrev pub last_first : List ℕ → List ℕ
last_first [] = []
last_first (z ∷ zs) = last_of z zs ∷ init_of z zs

-- a member leaves; the last one takes its place
abbrev pub remove : List ℕ → ℕ → List ℕ
remove [] x = []
remove (y ∷ ys) x = if x == y then last_first ys else y ∷ remove ys x
