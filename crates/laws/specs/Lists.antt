-- Lists as bags and as sequences. Membership is a count: in, `0 < count x l`; not in, `count x l ≡ 0`; no repeats, `count x l ≤ 1`.
use Rattle.std.specs.Prelude.{Bool, true, false, ◌&&◌, ◌||◌, List, [], ◌∷◌, ◌++◌, ℕ, zero, suc, ◌+◌, if◌then◌else◌, ◌==◌}
use Rattle.laws.specs.Tests.{◌<?◌, one}

-- how often x stands in a list
abbrev pub count : ℕ → List ℕ → ℕ
count x [] = 0
count x (y ∷ ys) = one (x == y) + count x ys

abbrev pub member : ℕ → List ℕ → Bool
member x l = 0 <? count x l

-- the members that pass a test, in order
abbrev pub keep : {A : Type 0} → (A → Bool) → List A → List A
keep p [] = []
keep p (x ∷ xs) = if p x then x ∷ keep p xs else keep p xs

-- each member passes a test
abbrev pub every : {A : Type 0} → (A → Bool) → List A → Bool
every p [] = true
every p (x ∷ xs) = p x && every p xs

-- some member passes a test
abbrev pub any : {A : Type 0} → (A → Bool) → List A → Bool
any p [] = false
any p (x ∷ xs) = p x || any p xs

-- the lists of all members, one after the other
abbrev pub flat : {A B : Type 0} → (A → List B) → List A → List B
flat f [] = []
flat f (x ∷ xs) = f x ++ flat f xs

-- f over each member of a list, in order: every loop of the rules
abbrev pub over : {A B : Type 0} → (A → B → A) → A → List B → A
over f s [] = s
over f s (x ∷ xs) = over f (f s x) xs

-- the numbers below n, upward
abbrev pub upto : ℕ → List ℕ
upto zero = []
upto (suc n) = upto n ++ (n ∷ [])

abbrev pub is_nil : {A : Type 0} → List A → Bool
is_nil [] = true
is_nil (x ∷ xs) = false

-- the first of a list, as f sees it, or d where there is none
abbrev pub first_or : {A : Type 0} → A → (ℕ → A) → List ℕ → A
first_or d f [] = d
first_or d f (x ∷ xs) = f x

-- a function that is v at p
abbrev pub put : {A : Type 0} → (ℕ → A) → ℕ → A → ℕ → A
put f p v q = if q == p then v else f q
