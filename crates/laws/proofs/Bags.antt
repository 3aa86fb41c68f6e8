-- Lists as bags: how often a number stands in a list, and what tests, joins and maps of lists hold.
use mathlib.Core.Path.{◌≡◌, refl, sym, ◌∙◌, ap, ap₂, subst}
use mathlib.Core.Bool.{Bool, true, false, not, ◌&&◌}
use mathlib.Core.List.{List, [], ◌∷◌, ◌++◌, map, append_assoc}
use Prim.Native.Nat.{ℕ, zero, suc, ◌+◌, ◌≤◌, ◌<◌}
use native.Mathlib.Omega.{arith}
use lib.ListN.{length, replicate}
use borrow.Author.Tests.{ltb-true, ltb-false, eqb-true, eqb-false, lt-ltb, le-ltb, eq-eqb, ne_eqb}
use Rattle.std.specs.Prelude.{◌==◌}
use Rattle.laws.specs.Tests.{◌<?◌, one}
use Rattle.laws.specs.Lists.{count, member, keep, every, any, flat, is_nil, first_or, put}
use Rattle.laws.proofs.Tests.{by_test, true≢false, one_eq, one_ne, or_left, or_right}

-- membership as a test
pub member_true : (x : ℕ) (l : List ℕ) → member x l ≡ true → 0 < count x l
member_true x l h = ltb-true 0 (count x l) h

pub member_false : (x : ℕ) (l : List ℕ) → member x l ≡ false → count x l ≡ 0
member_false x l h = omega (arith, ltb-false 0 (count x l) h)

pub is_member : (x : ℕ) (l : List ℕ) → 0 < count x l → member x l ≡ true
is_member x l h = lt-ltb 0 (count x l) h

pub no_member : (x : ℕ) (l : List ℕ) → count x l ≡ 0 → member x l ≡ false
no_member x l h = le-ltb 0 (count x l) (omega arith)

pub count-append : (x : ℕ) (s t : List ℕ) → count x (s ++ t) ≡ count x s + count x t
count-append x [] t = omega arith
count-append x (y ∷ s) t = omega (arith, count-append x s t)

-- membership of an append, by either part
pub of_append : {P : Type 0} (x : ℕ) (s t : List ℕ) → 0 < count x (s ++ t) → (0 < count x s → P) → (0 < count x t → P) → P
of_append x s t m p q = by_test (member x s) (λ y. p (member_true x s y)) (λ f. q (omega (arith, m, member_false x s f, count-append x s t)))

pub in_left : (x : ℕ) (s t : List ℕ) → 0 < count x s → 0 < count x (s ++ t)
in_left x s t m = omega (arith, m, count-append x s t)

pub in_right : (x : ℕ) (s t : List ℕ) → 0 < count x t → 0 < count x (s ++ t)
in_right x s t m = omega (arith, m, count-append x s t)

pub in_neither : (x : ℕ) (s t : List ℕ) → count x s ≡ 0 → count x t ≡ 0 → count x (s ++ t) ≡ 0
in_neither x s t m k = omega (arith, count-append x s t)

-- a list that has grown at its end by one
pub count_last : (x : ℕ) (s : List ℕ) → 0 < count x (s ++ (x ∷ []))
count_last x s = omega (arith, one_eq x x refl, count-append x s (x ∷ []))

pub count_other : (x y : ℕ) (s : List ℕ) → (y ≡ x → ⊥) → count y (s ++ (x ∷ [])) ≡ count y s
count_other x y s n = omega (arith, one_ne y x n, count-append y s (x ∷ []))

pub member_last : (x : ℕ) (s : List ℕ) → member x (s ++ (x ∷ [])) ≡ true
member_last x s = is_member x (s ++ (x ∷ [])) (count_last x s)

pub member_other : (x y : ℕ) (s : List ℕ) → (y ≡ x → ⊥) → member y (s ++ (x ∷ [])) ≡ member y s
member_other x y s n = ap (λ (k : ℕ). 0 <? k) (count_other x y s n)

pub member_head : (x : ℕ) (s : List ℕ) → member x (x ∷ s) ≡ true
member_head x s = is_member x (x ∷ s) (omega (arith, one_eq x x refl))

pub member_tail : (x y : ℕ) (s : List ℕ) → (y ≡ x → ⊥) → member y (x ∷ s) ≡ member y s
member_tail x y s n = let e : count y (x ∷ s) ≡ count y s = omega (arith, one_ne y x n) in ap (λ (k : ℕ). 0 <? k) e

pub member-left : (x : ℕ) (s t : List ℕ) → member x s ≡ true → member x (s ++ t) ≡ true
member-left x s t e = is_member x (s ++ t) (in_left x s t (member_true x s e))

pub member_neither : (x : ℕ) (s t : List ℕ) → member x s ≡ false → member x t ≡ false → member x (s ++ t) ≡ false
member_neither x s t a b = no_member x (s ++ t) (in_neither x s t (member_false x s a) (member_false x t b))

-- a list's first member may stand at its end
pub member_turn : (x y : ℕ) (s : List ℕ) → member y (x ∷ s) ≡ member y (s ++ (x ∷ []))
member_turn x y s = let e : count y (x ∷ s) ≡ count y (s ++ (x ∷ [])) = omega (arith, count-append y s (x ∷ [])) in ap (λ (k : ℕ). 0 <? k) e

pub snoc_all : (P : ℕ → Type 0) (s : List ℕ) (u : ℕ) → ((p : ℕ) → 0 < count p s → P p) → P u → (p : ℕ) → 0 < count p (s ++ (u ∷ [])) → P p
snoc_all P s u a pu p m = by_test (member p s)
    (λ t. a p (member_true p s t))
    (λ n. subst P (sym (by_test (p == u) (λ t. eqb-true p u t)
    (λ f. absurd (omega (arith, m, member_false p s n, count-append p s (u ∷ []), one_ne p u (eqb-false p u f)))))) pu)

-- lists that are told by what stands in them
pub none_in : (l : List ℕ) → ((p : ℕ) → count p l ≡ 0) → l ≡ []
none_in [] h = refl
none_in (x ∷ l) h = absurd (omega (arith, h x, one_eq x x refl))

pub nil_is : {A : Type 0} (l : List A) → is_nil l ≡ true → l ≡ []
nil_is [] e = refl
nil_is (x ∷ xs) e = true≢false false e refl

pub nil_not : {A : Type 0} (l : List A) → is_nil l ≡ false → 0 < length l
nil_not [] e = true≢false true refl e
nil_not (x ∷ xs) e = omega arith

-- what stands at the head of a list, or behind it: the case split of membership
pub at_head : {P : Type 0} (x y : ℕ) (ys : List ℕ) → 0 < count x (y ∷ ys) → (x ≡ y → P) → (0 < count x ys → P) → P
at_head x y ys h p q = by_test (x == y)
    (λ t. p (eqb-true x y t))
    (λ f. q (omega (arith, h, one_ne x y (eqb-false x y f))))

pub here : (x : ℕ) (ys : List ℕ) → 0 < count x (x ∷ ys)
here x ys = omega (arith, one_eq x x refl)

pub there : (x y : ℕ) (ys : List ℕ) → 0 < count x ys → 0 < count x (y ∷ ys)
there x y ys h = omega arith

-- a list of one member has one
pub only_one : (l : List ℕ) (x y : ℕ) → length l ≡ 1 → 0 < count x l → 0 < count y l → x ≡ y
only_one [] x y h mx my = absurd (omega arith)
only_one (z ∷ []) x y h mx my = at_head x z [] mx (λ e. at_head y z [] my (λ e'. e ∙ sym e') (λ m. absurd (omega arith))) (λ m. absurd (omega arith))
only_one (z ∷ w ∷ l) x y h mx my = absurd (omega arith)

-- the kept members
pub count-keep : (p : ℕ → Bool) (x : ℕ) (l : List ℕ) → p x ≡ true → count x (keep p l) ≡ count x l
count-keep p x [] h = refl
count-keep p x (y ∷ l) h = by_test (p y)
    (λ t. rw t (ap (λ (n : ℕ). one (x == y) + n) (count-keep p x l h)))
    (λ f. rw f (omega (arith, count-keep p x l h, one_ne x y (λ e. true≢false (p y) (subst (λ (z : ℕ). p z ≡ true) e h) f))))

pub count-drop : (p : ℕ → Bool) (x : ℕ) (l : List ℕ) → p x ≡ false → count x (keep p l) ≡ 0
count-drop p x [] h = refl
count-drop p x (y ∷ l) h = by_test (p y)
    (λ t. rw t (omega (arith, count-drop p x l h, one_ne x y (λ e. true≢false (p y) t (subst (λ (z : ℕ). p z ≡ false) e h)))))
    (λ f. rw f (count-drop p x l h))

pub keep_le : (p : ℕ → Bool) (x : ℕ) (l : List ℕ) → count x (keep p l) ≤ count x l
keep_le p x l = by_test (p x) (λ t. omega (arith, count-keep p x l t)) (λ f. omega (arith, count-drop p x l f))

pub keep_true : (p : ℕ → Bool) (x : ℕ) (l : List ℕ) → 0 < count x (keep p l) → p x ≡ true
keep_true p x l h = by_test (p x) (λ t. t) (λ f. absurd (omega (arith, count-drop p x l f)))

pub keep_sub : (f g : ℕ → Bool) (x : ℕ) (l : List ℕ) → ((y : ℕ) → f y ≡ true → g y ≡ true) → 0 < count x (keep f l) → 0 < count x (keep g l)
keep_sub f g x l h m = rw (count-keep g x l (h x (keep_true f x l m))) (omega (arith, m, keep_le f x l))

pub keep_append : {A : Type 0} (p : A → Bool) (s t : List A) → keep p (s ++ t) ≡ keep p s ++ keep p t
keep_append p [] t = refl
keep_append p (x ∷ s) t = by_test (p x) (λ y. rw y (ap (λ r. x ∷ r) (keep_append p s t))) (λ f. rw f (keep_append p s t))

pub length-keep : {A : Type 0} (p : A → Bool) (l : List A) → length (keep p l) ≤ length l
length-keep p [] = omega arith
length-keep p (x ∷ l) = by_test (p x) (λ y. rw y (omega (arith, length-keep p l))) (λ f. rw f (omega (arith, length-keep p l)))

-- a test that each member passes
pub every_true : (p : ℕ → Bool) (x : ℕ) (l : List ℕ) → every p l ≡ true → 0 < count x l → p x ≡ true
every_true p x [] h c = absurd (omega arith)
every_true p x (y ∷ l) h c = by_test (p y)
    (λ t. at_head x y l c (λ e. rw e t) (λ m. every_true p x l (rw t at h) m))
    (λ f. true≢false false (rw f at h) refl)

pub every_false : {P : Type 0} (p : ℕ → Bool) (l : List ℕ) → every p l ≡ false → ((x : ℕ) → 0 < count x l → p x ≡ false → P) → P
every_false p [] h k = true≢false true refl h
every_false p (y ∷ l) h k = by_test (p y)
    (λ t. every_false p l (rw t at h) (λ x c f. k x (there x y l c) f))
    (λ f. k y (here y l) f)

pub every_all : (p : ℕ → Bool) (l : List ℕ) → ((x : ℕ) → 0 < count x l → p x ≡ true) → every p l ≡ true
every_all p [] h = refl
every_all p (x ∷ l) h = rw (h x (here x l)) (every_all p l (λ y m. h y (there y x l m)))

pub every_append : {A : Type 0} (p : A → Bool) (s t : List A) → every p (s ++ t) ≡ (every p s && every p t)
every_append p [] t = refl
every_append p (x ∷ s) t = by_test (p x) (λ y. rw y (every_append p s t)) (λ f. rw f)

-- a test that some member passes
pub any_true : {P : Type 0} (p : ℕ → Bool) (l : List ℕ) → any p l ≡ true → ((x : ℕ) → 0 < count x l → p x ≡ true → P) → P
any_true p [] h k = true≢false false h refl
any_true p (y ∷ l) h k = by_test (p y)
    (λ t. k y (here y l) t)
    (λ f. any_true p l (rw f at h) (λ x c t. k x (there x y l c) t))

pub any-one : (p : ℕ → Bool) (x : ℕ) (l : List ℕ) → 0 < count x l → p x ≡ true → any p l ≡ true
any-one p x [] c t = absurd (omega arith)
any-one p x (y ∷ l) c t = at_head x y l c
    (λ e. or_left (p y) (any p l) (subst (λ (z : ℕ). p z ≡ true) e t))
    (λ m. or_right (p y) (any p l) (any-one p x l m t))

pub any_false : (p : ℕ → Bool) (x : ℕ) (l : List ℕ) → any p l ≡ false → 0 < count x l → p x ≡ false
any_false p x l h c = by_test (p x) (λ t. true≢false (any p l) (any-one p x l c t) h) (λ f. f)

pub any_none : (p : ℕ → Bool) (l : List ℕ) → ((x : ℕ) → 0 < count x l → p x ≡ false) → any p l ≡ false
any_none p [] h = refl
any_none p (x ∷ l) h = rw (h x (here x l)) (any_none p l (λ y m. h y (there y x l m)))

-- lists joined
pub in_flat : (f : ℕ → List ℕ) (u o : ℕ) (l : List ℕ) → 0 < count u l → 0 < count o (f u) → 0 < count o (flat f l)
in_flat f u o [] h k = h
in_flat f u o (y ∷ l) h k = rw (count-append o (f y) (flat f l)) (at_head u y l h
    (λ e. omega (arith, subst (λ (z : ℕ). 0 < count o (f z)) e k))
    (λ m. omega (arith, in_flat f u o l m k)))

pub of_flat : {P : Type 0} (f : ℕ → List ℕ) (o : ℕ) (l : List ℕ) → 0 < count o (flat f l) → ((u : ℕ) → 0 < count u l → 0 < count o (f u) → P) → P
of_flat f o [] h k = absurd (omega arith)
of_flat f o (y ∷ l) h k = by_test (0 <? count o (f y))
    (λ t. k y (here y l) (ltb-true 0 (count o (f y)) t))
    (λ n. of_flat f o l (omega (arith, ltb-false 0 (count o (f y)) n, count-append o (f y) (flat f l))) (λ u c m. k u (there u y l c) m))

-- what a bag reads is what the kept part reads and what the rest reads
pub flat_parts : (f : ℕ → List ℕ) (p : ℕ → Bool) (o : ℕ) (l : List ℕ)
    → count o (flat f l) ≡ count o (flat f (keep p l)) + count o (flat f (keep (λ x. not (p x)) l))
flat_parts f p o [] = omega arith
flat_parts f p o (y ∷ l) = by_test (p y)
    (λ t. rw t (omega (arith, flat_parts f p o l, count-append o (f y) (flat f l), count-append o (f y) (flat f (keep p l)))))
    (λ n. rw n (omega (arith, flat_parts f p o l, count-append o (f y) (flat f l), count-append o (f y) (flat f (keep (λ x. not (p x)) l)))))

pub flat_append : {A : Type 0} (f : A → List ℕ) (xs ys : List A) (p : ℕ) → count p (flat f (xs ++ ys)) ≡ count p (flat f xs) + count p (flat f ys)
flat_append f [] ys p = omega arith
flat_append f (x ∷ xs) ys p = omega (arith, flat_append f xs ys p, count-append p (f x) (flat f (xs ++ ys)), count-append p (f x) (flat f xs))

pub flat-joined : {A B : Type 0} (f : A → List B) (xs ys : List A) → flat f (xs ++ ys) ≡ flat f xs ++ flat f ys
flat-joined f [] ys = refl
flat-joined f (x ∷ xs) ys = ap (λ l. f x ++ l) (flat-joined f xs ys) ∙ sym (append_assoc (f x) (flat f xs) (flat f ys))

pub flat_keep : (f : ℕ → List ℕ) (ok : ℕ → Bool) (us : List ℕ) (p : ℕ) → count p (flat f (keep ok us)) ≤ count p (flat f us)
flat_keep f ok us p = omega (arith, flat_parts f ok p us)

-- what was read, and what is read now, is no more than all that is to be read: a reader count never falls below 0
pub reads_fit : (f : ℕ → List ℕ) (ok : ℕ → Bool) (us vs : List ℕ) (u p : ℕ) → count p (flat f (keep ok us)) + count p (f u) ≤ count p (flat f (us ++ (u ∷ vs)))
reads_fit f ok us vs u p = omega (arith, flat_keep f ok us p, flat_append f us (u ∷ vs) p, count-append p (f u) (flat f vs))

-- the first of a list, as a function sees it
pub first_all : {A : Type 0} (P : A → Type 0) (d : A) (f : ℕ → A) (l : List ℕ) → P d → ((q : ℕ) → 0 < count q l → P (f q)) → P (first_or d f l)
first_all P d f [] a h = a
first_all P d f (q ∷ l) a h = h q (here q l)

pub first_same : {A : Type 0} (v w : ℕ → A) (d : A) (l : List ℕ) → ((q : ℕ) → 0 < count q l → v q ≡ w q) → first_or d v l ≡ first_or d w l
first_same v w d [] h = refl
first_same v w d (q ∷ l) h = h q (here q l)

pub first_through : {A B : Type 0} (g : A → B) (d : A) (b : B) (f : ℕ → A) (v : ℕ → B) (l : List ℕ) → g d ≡ b → ((q : ℕ) → 0 < count q l → g (f q) ≡ v q) → g (first_or d f l) ≡ first_or b v l
first_through g d b f v [] a h = a
first_through g d b f v (q ∷ l) a h = h q (here q l)

pub first_in : (d : ℕ) (l : List ℕ) → 0 < length l → 0 < count (first_or d (λ x. x) l) l
first_in d [] h = absurd (omega arith)
first_in d (x ∷ l) h = here x l

-- one number several times
pub count-replicate : (k u : ℕ) → count u (replicate k u) ≡ k
count-replicate zero u = refl
count-replicate (suc k) u = omega (arith, count-replicate k u, one_eq u u refl)

pub count-replicate_other : (k u x : ℕ) → (x ≡ u → ⊥) → count x (replicate k u) ≡ 0
count-replicate_other zero u x ne = refl
count-replicate_other (suc k) u x ne = omega (arith, count-replicate_other k u x ne, one_ne x u ne)

-- each member seen through a function
pub map_same : {B : Type 0} (f h : ℕ → B) (l : List ℕ) → ((x : ℕ) → 0 < count x l → f x ≡ h x) → map f l ≡ map h l
map_same f h [] e = refl
map_same f h (x ∷ l) e = ap₂ (λ a b. a ∷ b) (e x (here x l)) (map_same f h l (λ y m. e y (there y x l m)))

pub map-append : {A B : Type 0} (f : A → B) (s t : List A) → map f (s ++ t) ≡ map f s ++ map f t
map-append f [] t = refl
map-append f (x ∷ s) t = ap (λ r. f x ∷ r) (map-append f s t)

pub in_map : (f : ℕ → ℕ) (x : ℕ) (l : List ℕ) → 0 < count x l → 0 < count (f x) (map f l)
in_map f x [] m = absurd (omega arith)
in_map f x (y ∷ l) m = at_head x y l m (λ e. omega (arith, one_eq (f x) (f y) (ap f e))) (λ m'. omega (arith, in_map f x l m'))

pub of_map : (P : ℕ → Type 0) (f : ℕ → ℕ) (l : List ℕ) → ((x : ℕ) → P (f x)) → (y : ℕ) → 0 < count y (map f l) → P y
of_map P f [] h y m = absurd (omega arith)
of_map P f (x ∷ l) h y m = at_head y (f x) (map f l) m (λ e. rw e (h x)) (λ m'. of_map P f l h y m')

pub from_map : {P : Type 0} (f : ℕ → ℕ) (y : ℕ) (l : List ℕ) → 0 < count y (map f l) → ((x : ℕ) → 0 < count x l → y ≡ f x → P) → P
from_map f y [] m k = absurd (omega arith)
from_map f y (x ∷ l) m k = at_head y (f x) (map f l) m (λ e. k x (here x l) e) (λ m'. from_map f y l m' (λ z mz e. k z (there z x l mz) e))

-- a function changed at one place
pub put_same : {A : Type 0} (f : ℕ → A) (p : ℕ) (x : A) → put f p x p ≡ x
put_same f p x = rw (eq-eqb p p refl)

pub put_other : {A : Type 0} (f : ℕ → A) (p : ℕ) (x : A) (q : ℕ) → (q ≡ p → ⊥) → put f p x q ≡ f q
put_other f p x q h = rw (ne_eqb q p h)

pub put_all : {A : Type 0} (P : A → Type 0) (f : ℕ → A) (p : ℕ) (x : A) → P x → ((q : ℕ) → P (f q)) → (q : ℕ) → P (put f p x q)
put_all P f p x a h q = by_test (q == p) (λ t. rw t a) (λ g. rw g (h q))

pub put_by : {A : Type 0} (P : ℕ → A → Type 0) (f : ℕ → A) (p : ℕ) (x : A) (q : ℕ) → (q ≡ p → P q x) → ((q ≡ p → ⊥) → P q (f q)) → P q (put f p x q)
put_by P f p x q a h = by_test (q == p) (λ t. rw t (a (eqb-true q p t))) (λ g. rw g (h (eqb-false q p g)))
