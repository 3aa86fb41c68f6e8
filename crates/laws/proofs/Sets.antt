-- The ordered set: what stands in it after an insertion or a removal, removal by index, and a table of places beside it.
use mathlib.Core.Path.{◌≡◌, refl, sym, ◌∙◌, ap, subst}
use mathlib.Core.List.{List, [], ◌∷◌, ◌++◌}
use Prim.Native.Nat.{ℕ, zero, suc, ◌+◌, ◌-◌, ◌≤◌, ◌<◌}
use native.Mathlib.Omega.{arith}
use lib.ListN.{length, get_or, set, take, length-append, length-set, get_or-append}
use lib.Seq.{get_or-append_seam, get_or-set_same, get_or-set_other, get_or-take, length-take-le}
use borrow.Author.Tests.{ltb-true, ltb-false, eqb-true, eqb-false, eq-eqb, ne_eqb}
use Rattle.std.specs.Prelude.{◌==◌}
use Rattle.laws.specs.Tests.{◌<?◌, one}
use Rattle.laws.specs.Lists.{count, member, over}
use Rattle.laws.specs.Sets.{insert, last_of, init_of, last_first, remove}
use Rattle.laws.proofs.Tests.{by_test, one_eq, one_ne, one_le}
use Rattle.laws.proofs.Indices.{at_in, index_of, once_at}
use Rattle.laws.proofs.Bags.{member_true, member_false, is_member, no_member, count-append}

-- the last member in front changes no count
pub count-last_first : (x z : ℕ) (zs : List ℕ) → one (x == last_of z zs) + count x (init_of z zs) ≡ one (x == z) + count x zs
count-last_first x z [] = refl
count-last_first x z (w ∷ ws) = omega (arith, count-last_first x w ws)

pub count_last_first' : (x : ℕ) (l : List ℕ) → count x (last_first l) ≡ count x l
count_last_first' x [] = refl
count_last_first' x (z ∷ zs) = count-last_first x z zs

-- a removal takes one away, and nothing else
pub count-remove_other : (s : List ℕ) (x p : ℕ) → (p ≡ x → ⊥) → count p (remove s x) ≡ count p s
count-remove_other [] x p h = refl
count-remove_other (y ∷ s) x p h = by_test (x == y)
    (λ t. rw t (omega (arith, count_last_first' p s, one_ne p y (λ e. h (e ∙ sym (eqb-true x y t))))))
    (λ f. rw f (ap (λ (n : ℕ). one (p == y) + n) (count-remove_other s x p h)))

pub count-remove-same : (s : List ℕ) (x : ℕ) → count x (remove s x) ≡ count x s - 1
count-remove-same [] x = refl
count-remove-same (y ∷ s) x = by_test (x == y)
    (λ t. rw t (omega (arith, count_last_first' x s)))
    (λ f. rw f (omega (arith, count-remove-same s x, one_ne x y (eqb-false x y f))))

pub count-remove : (s : List ℕ) (x p : ℕ) → count p (remove s x) ≡ count p s - one (p == x)
count-remove s x p = by_test (p == x)
    (λ t. rw t (subst (λ (z : ℕ). count p (remove s z) ≡ count p s - 1) (eqb-true p x t) (count-remove-same s p)))
    (λ f. rw f (omega (arith, count-remove_other s x p (eqb-false p x f))))

pub count_removes : (s es : List ℕ) (p : ℕ) → count p (over remove s es) ≡ count p s - count p es
count_removes s [] p = omega arith
count_removes s (e ∷ es) p = omega (arith, count_removes (remove s e) es p, count-remove s e p)

-- an insertion adds what was not there, and nothing else
pub count-insert_other : (s : List ℕ) (x p : ℕ) → (p ≡ x → ⊥) → count p (insert s x) ≡ count p s
count-insert_other s x p h = by_test (member x s)
    (λ t. rw t refl)
    (λ f. rw f (omega (arith, count-append p s (x ∷ []), one_ne p x h)))

pub count-insert-same : (s : List ℕ) (x : ℕ) → 0 < count x (insert s x)
count-insert-same s x = by_test (member x s)
    (λ t. rw t (member_true x s t))
    (λ f. rw f (omega (arith, count-append x s (x ∷ []), one_eq x x refl)))

pub insert_le : (s : List ℕ) (x p : ℕ) → count p s ≤ count p (insert s x)
insert_le s x p = by_test (member x s)
    (λ t. rw t (omega arith))
    (λ f. rw f (omega (arith, count-append p s (x ∷ []))))

pub insert-one : (s : List ℕ) (x : ℕ) → count x s ≡ 0 → count x (insert s x) ≤ 1
insert-one s x n = by_test (member x s)
    (λ t. rw t (omega arith))
    (λ f. rw f (omega (arith, count-append x s (x ∷ []), one_le (x == x))))

pub insert-once : (l : List ℕ) (x y : ℕ) → ((z : ℕ) → count z l ≤ 1) → count y (insert l x) ≤ 1
insert-once l x y h = by_test (member x l)
    (λ t. rw t (h y))
    (λ f. rw f (by_test (y == x)
    (λ t. omega (arith, count-append y l (x ∷ []), one_le (y == x), member_false x l f, ap (λ (z : ℕ). count z l) (eqb-true y x t)))
    (λ g. omega (arith, count-append y l (x ∷ []), one_ne y x (eqb-false y x g), h y))))

pub insert_cases : {P : Type 0} (l : List ℕ) (x y : ℕ) → 0 < count y (insert l x) → (y ≡ x → P) → (0 < count y l → P) → P
insert_cases l x y m p q = by_test (y == x)
    (λ t. p (eqb-true y x t))
    (λ g. q (omega (arith, m, count-insert_other l x y (eqb-false y x g))))

pub insert-longer : (l : List ℕ) (x : ℕ) → length l ≤ length (insert l x)
insert-longer l x = by_test (member x l) (λ t. rw t (omega arith)) (λ f. rw f (omega (arith, length-append l (x ∷ []))))

pub insert_old : (s : List ℕ) (x : ℕ) → 0 < count x s → insert s x ≡ s
insert_old s x m = rw (is_member x s m)

pub insert_new : (s : List ℕ) (x : ℕ) → count x s ≡ 0 → insert s x ≡ s ++ (x ∷ [])
insert_new s x n = rw (no_member x s n)

-- lengths: a removal of a member makes the set one shorter
length_init : (z : ℕ) (zs : List ℕ) → length (init_of z zs) ≡ length zs
length_init z [] = refl
length_init z (w ∷ ws) = ap suc (length_init w ws)

length-last_first : (l : List ℕ) → length (last_first l) ≡ length l
length-last_first [] = refl
length-last_first (z ∷ zs) = ap suc (length_init z zs)

pub length-remove : (s : List ℕ) (x : ℕ) → 0 < count x s → suc (length (remove s x)) ≡ length s
length-remove [] x m = absurd (omega arith)
length-remove (y ∷ s) x m = by_test (x == y)
    (λ t. rw t (ap suc (length-last_first s)))
    (λ f. rw f (ap suc (length-remove s x (omega (arith, m, one_ne x y (eqb-false x y f))))))

-- a removal by index, as a program does it: the last word goes to the removed place, and the set is one shorter
last_is : (z : ℕ) (zs : List ℕ) → get_or (z ∷ zs) (length zs) 0 ≡ last_of z zs
last_is z [] = refl
last_is z (w ∷ ws) = last_is w ws

init_is : (z : ℕ) (zs : List ℕ) → take (length zs) (z ∷ zs) ≡ init_of z zs
init_is z [] = refl
init_is z (w ∷ ws) = ap (λ (l : List ℕ). z ∷ l) (init_is w ws)

last_first_is : (y x : ℕ) (zs : List ℕ) → take (length zs) (get_or (y ∷ zs) (length zs) 0 ∷ zs) ≡ last_first zs
last_first_is y x [] = refl
last_first_is y x (w ∷ ws) = rw (last_is w ws, init_is w ws)

-- x stands at i and nowhere before it
pub remove_at : (s : List ℕ) (x i : ℕ) → i < length s → get_or s i 0 ≡ x → ((j : ℕ) → j < i → get_or s j 0 ≡ x → ⊥)
    → remove s x ≡ take (length s - 1) (set s i (get_or s (length s - 1) 0))
remove_at [] x i h e f = refl
remove_at (y ∷ s) x zero h e f =
    let q : suc (length s) - 1 ≡ length s = omega arith in
    rw (eq-eqb x y (sym e)) (rw q (sym (last_first_is y x s)))
remove_at (y ∷ []) x (suc i) h e f = absurd (omega arith)
remove_at (y ∷ z ∷ s) x (suc i) h e f =
    let q : suc (suc (length s)) - 1 ≡ suc (length s) = omega arith in
    let q' : suc (length s) - 1 ≡ length s = omega arith in
    rw (ne_eqb x y (λ d. f 0 (omega arith) (sym d))) (rw q (ap (λ (l : List ℕ). y ∷ l) (rw q' at (remove_at (z ∷ s) x i (omega arith) e (λ j k d. f (suc j) (omega arith) d)))))

-- where no member comes twice, any index at which x stands is the one
pub remove-once : (s : List ℕ) (x i : ℕ) → ((p : ℕ) → count p s ≤ 1) → i < length s → get_or s i 0 ≡ x
    → remove s x ≡ take (length s - 1) (set s i (get_or s (length s - 1) 0))
remove-once s x i once h e = remove_at s x i h e (λ j l q. let w : j ≡ i = once_at s once j i (omega arith) h (q ∙ sym e) in omega arith)

-- and a removal leaves it so
pub remove_le : (s : List ℕ) (x p : ℕ) → count p (remove s x) ≤ count p s
remove_le s x p = omega (arith, count-remove s x p)

-- ---- the set with a table of places: at a member's number its index plus 1, and 0 elsewhere
pub record Placed (t s : List ℕ) : Type 0 where
  pub at : (i : ℕ) → i < length s → get_or t (get_or s i 0) 0 ≡ suc i
  pub off : (p : ℕ) → count p s ≡ 0 → get_or t p 0 ≡ 0

-- each member stands once
pub placed-once : (t s : List ℕ) → Placed t s → (k j : ℕ) → k < length s → j < length s → get_or s k 0 ≡ get_or s j 0 → k ≡ j
placed-once t s g k j hk hj e = omega (arith, g.at k hk, g.at j hj, ap (λ (p : ℕ). get_or t p 0) e)

-- a word of the table that is not 0 says where its number stands
pub placed_in : (t s : List ℕ) (p : ℕ) → Placed t s → (get_or t p 0 ≡ 0 → ⊥) → (get_or t p 0 - 1 < length s) × (get_or s (get_or t p 0 - 1) 0 ≡ p)
placed_in t s p g n = by_test (member p s)
    (λ m. let w = index_of s p (member_true p s m) in
    let e : get_or t p 0 - 1 ≡ w.0 = omega (arith, g.at w.0 w.1, ap (λ (q : ℕ). get_or t q 0) w.2) in
    (omega (arith, w.1), ap (λ (k : ℕ). get_or s k 0) e ∙ w.2))
    (λ f. absurd (n (g.off p (member_false p s f))))

-- a new member joins at the end
pub placed-insert : (t s : List ℕ) (x : ℕ) → Placed t s → x < length t → get_or t x 0 ≡ 0 → Placed (set t x (length s + 1)) (s ++ (x ∷ []))
placed-insert t s x g h z = record {
  at = λ i l. by_test (i <? length s)
      (λ y. let b = ltb-true i (length s) y in
      let ne : get_or s i 0 ≡ x → ⊥ = λ e. omega (arith, g.at i b, ap (λ (p : ℕ). get_or t p 0) e) in
      ap (λ (p : ℕ). get_or (set t x (length s + 1)) p 0) (get_or-append s (x ∷ []) 0 i b) ∙ get_or-set_other t x (get_or s i 0) (length s + 1) 0 ne ∙ g.at i b)
      (λ f. let e : i ≡ length s = omega (arith, ltb-false i (length s) f, length-append s (x ∷ [])) in
      ap (λ (k : ℕ). get_or (set t x (length s + 1)) (get_or (s ++ (x ∷ [])) k 0) 0) e
      ∙ ap (λ (p : ℕ). get_or (set t x (length s + 1)) p 0) (get_or-append_seam s x [] 0)
      ∙ get_or-set_same t x (length s + 1) 0 h ∙ omega arith);
  off = λ p c. get_or-set_other t x p (length s + 1) 0 (λ e. omega (arith, c, count-append p s (x ∷ []), one_eq p x e)) ∙ g.off p (omega (arith, c, count-append p s (x ∷ [])));
}

-- a member leaves: the last one's place is its own now, and its own is 0
pub placed-remove : (t s : List ℕ) (x i : ℕ) → Placed t s → ((p : ℕ) → 0 < count p s → p < length t) → i < length s → get_or s i 0 ≡ x
    → Placed (set (set t (get_or s (length s - 1) 0) (suc i)) x 0) (take (length s - 1) (set s i (get_or s (length s - 1) 0)))
placed-remove t s x i g b h e = record {
  at = λ j l.
      let j-lt : j < length s - 1 = omega (arith, length-take-le (length s - 1) new (omega (arith, length-set s i last))) in
      ap (λ (p : ℕ). get_or tab p 0) (get_or-take (length s - 1) new j 0 j-lt) ∙ by_test (j == i)
      (λ y. let q = eqb-true j i y in
      ap (λ (k : ℕ). get_or tab (get_or new k 0) 0) q
      ∙ ap (λ (p : ℕ). get_or tab p 0) (get_or-set_same s i last 0 h)
      ∙ get_or-set_other (set t last (suc i)) x last 0 0 (λ w. omega (arith, j-lt, q, placed-once t s g (length s - 1) i (omega arith) h (w ∙ sym e)))
      ∙ get_or-set_same t last (suc i) 0 last_lt ∙ ap suc (sym q))
      (λ f. let n = eqb-false j i f in
      ap (λ (p : ℕ). get_or tab p 0) (get_or-set_other s i j last 0 n)
      ∙ get_or-set_other (set t last (suc i)) x (get_or s j 0) 0 0 (λ w. n (placed-once t s g j i (omega arith) h (w ∙ sym e)))
      ∙ get_or-set_other t last (get_or s j 0) (suc i) 0 (λ w. omega (arith, j-lt, placed-once t s g j (length s - 1) (omega arith) (omega arith) w))
      ∙ g.at j (omega arith));
  off = λ p c. by_test (p == x)
      (λ y. ap (λ (q : ℕ). get_or tab q 0) (eqb-true p x y) ∙ get_or-set_same (set t last (suc i)) x 0 0 (rw (length-set t last (suc i)) (b x x_in)))
      (λ f. let n = eqb-false p x f in
      let z : count p s ≡ 0 = sym (count-remove_other s x p n) ∙ ap (count p) (remove_at s x i h e (λ j l w. (let q = placed-once t s g j i (omega arith) h (w ∙ sym e) in omega arith))) ∙ c in
      get_or-set_other (set t last (suc i)) x p 0 0 n
      ∙ get_or-set_other t last p (suc i) 0 (λ w. omega (arith, z, subst (λ (q : ℕ). 0 < count q s) (sym w) (at_in s (length s - 1) (omega arith))))
      ∙ g.off p z);
}
  where
    last : ℕ
    last = get_or s (length s - 1) 0

    new : List ℕ
    new = set s i last

    tab : List ℕ
    tab = set (set t last (suc i)) x 0

    last_lt : last < length t
    last_lt = b last (at_in s (length s - 1) (omega arith))

    x_in : 0 < count x s
    x_in = subst (λ (q : ℕ). 0 < count q s) e (at_in s i h)

-- removal does not keep the order of those who stay
removal_moves_last : remove (10 ∷ 20 ∷ 30 ∷ 40 ∷ []) 20 ≡ 10 ∷ 40 ∷ 30 ∷ []
removal_moves_last = refl
