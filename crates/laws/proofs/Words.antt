-- Words of a list after a store, parts of a list, tables that are 0 past what they hold, and loops that fill, copy and count.
use mathlib.Core.Path.{◌≡◌, refl, sym, ◌∙◌, ap, subst}
use mathlib.Core.Bool.{true}
use mathlib.Core.List.{List, [], ◌∷◌, ◌++◌, append-nil}
use Prim.Native.Nat.{ℕ, zero, suc, ◌+◌, ◌-◌, ◌≤◌, ◌<◌}
use native.Mathlib.Numerals.{add-one}
use native.Mathlib.Omega.{arith}
use borrow.Author.Fill.{fill_more}
use borrow.Author.Tests.{eqb-true, eqb-false, ltb-true, ltb-false, lt-ltb}
use lib.ListN.{length, get_or, take, drop, set, replicate, length-append, length-set, length-drop, length-replicate, get_or-replicate, get_or-append, get_or-eq_default}
use lib.Seq.{set_at, append_snoc, get_or-set_same, get_or-set_other, get_or-take, get_or-drop, get_or-append-add, take-suc, take-suc-set, take_all, drop-set-lt, drop-set-add, take-set-le, drop-cons, drop-length, length-take-le, ext_get_or, take_at}
use Rattle.std.specs.Prelude.{◌==◌}
use Rattle.laws.specs.Tests.{◌<?◌}
use Rattle.laws.specs.Lists.{count, every, over}
use Rattle.laws.specs.Words.{part, AllBelow, ZeroFrom, zeros, filled}
use Rattle.laws.proofs.Tests.{by_test, one_eq, one_ne}
use Rattle.laws.proofs.Indices.{every_at, every_entry}
use Rattle.laws.proofs.Bags.{at_head, of_append}

-- a word after a store, by whether it is the one stored
pub get_d_set : (l : List ℕ) (i j a : ℕ) (P : ℕ → Type 0) → i < length l → (j ≡ i → P a) → ((j ≡ i → ⊥) → P (get_or l j 0)) → P (get_or (set l i a) j 0)
get_d_set l i j a P h same other = by_test (j == i)
    (λ e. let q = eqb-true j i e in subst (λ (n : ℕ). P (get_or (set l i a) n 0)) (sym q) (subst P (sym (get_or-set_same l i a 0 h)) (same q)))
    (λ e. let n = eqb-false j i e in subst P (sym (get_or-set_other l i j a 0 n)) (other n))

-- a word past the end is 0, so a word that is not 0 lies inside
pub word_past : (l : List ℕ) (i : ℕ) → length l ≤ i → get_or l i 0 ≡ 0
word_past l i h = get_or-eq_default l 0 {n = i} h

pub word_inside : (l : List ℕ) (i : ℕ) → (get_or l i 0 ≡ 0 → ⊥) → i < length l
word_inside l i n = by_test (i <? length l) (λ t. ltb-true i (length l) t) (λ f. absurd (n (word_past l i (ltb-false i (length l) f))))

-- ---- the part of n words from a on
pub part_none : (w : List ℕ) (a : ℕ) → part w a 0 ≡ []
unfolding part
part_none w a = refl

pub part_whole : (w : List ℕ) → part w 0 (length w) ≡ w
unfolding part
part_whole w = take_all (length w) w (omega arith)

pub part_length : (w : List ℕ) (a n : ℕ) → a + n ≤ length w → length (part w a n) ≡ n
unfolding part
part_length w a n l = length-take-le n (drop a w) (rw length-drop (omega arith))

pub part_at : (w : List ℕ) (a n j : ℕ) → j < n → get_or (part w a n) j 0 ≡ get_or w (a + j) 0
unfolding part
part_at w a n j l = get_or-take n (drop a w) j 0 l ∙ get_or-drop a w j 0

-- a part is told by its words
pub part_is : (w l : List ℕ) (a : ℕ) → a + length l ≤ length w → ((j : ℕ) → j < length l → get_or w (a + j) 0 ≡ get_or l j 0) → part w a (length l) ≡ l
part_is w l a h e = ext_get_or 0 (part w a (length l)) l (part_length w a (length l) h)
    (λ i b. let b' : i < length l = omega (arith, part_length w a (length l) h) in part_at w a (length l) i b' ∙ e i b')

-- parts agree where their words do
pub part_same : (v w : List ℕ) (a n : ℕ) → a + n ≤ length v → a + n ≤ length w → ((j : ℕ) → a ≤ j → j < a + n → get_or v j 0 ≡ get_or w j 0) → part v a n ≡ part w a n
part_same v w a n lv lw e =
    let nv = part_length v a n lv in
    ext_get_or 0 (part v a n) (part w a n) (nv ∙ sym (part_length w a n lw))
    (λ i l. part_at v a n i (omega arith) ∙ e (a + i) (omega arith) (omega arith) ∙ sym (part_at w a n i (omega arith)))

-- a store before or after a part leaves it as it was
pub part-before : (w : List ℕ) (a n i v : ℕ) → i < a → part (set w i v) a n ≡ part w a n
unfolding part
part-before w a n i v l = ap (take n) (drop-set-lt a w i v l)

pub part_after : (w : List ℕ) (a n i v : ℕ) → a + n ≤ i → part (set w i v) a n ≡ part w a n
unfolding part
part_after w a n i v l =
    let e : i ≡ a + (i - a) = omega arith in
    ap (λ (j : ℕ). take n (drop a (set w j v))) e ∙ ap (take n) (drop-set-add a w (i - a) v) ∙ take-set-le n (drop a w) (i - a) v (omega arith)

-- a store at the end of a part makes it one longer, and so does the word that stands there
pub part-more : (w : List ℕ) (a n v : ℕ) → a + n < length w → part (set w (a + n) v) a (n + 1) ≡ part w a n ++ (v ∷ [])
unfolding part
part-more w a n v l =
    ap (take (n + 1)) (drop-set-add a w n v)
    ∙ ap (λ (j : ℕ). take j (set (drop a w) n v)) (add-one n)
    ∙ take-suc-set (drop a w) n v (rw length-drop (omega arith))

pub part_suc : (w : List ℕ) (a n : ℕ) → a + n < length w → part w a (n + 1) ≡ part w a n ++ (get_or w (a + n) 0 ∷ [])
unfolding part
part_suc w a n l =
    ap (λ (j : ℕ). take j (drop a w)) (add-one n)
    ∙ take-suc (drop a w) n 0 (rw length-drop (omega arith))
    ∙ ap (λ (v : ℕ). take n (drop a w) ++ (v ∷ [])) (get_or-drop a w n 0)

-- a member of a part stands at an index of it
pub part_in : {P : Type 0} (w : List ℕ) (a n p : ℕ) → a + n ≤ length w → 0 < count p (part w a n) → ((j : ℕ) → j < n → get_or w (a + j) 0 ≡ p → P) → P
part_in w a zero p h m k = absurd (omega (arith, m, ap (count p) (part_none w a)))
part_in w a (suc n) p h m k =
    let e : part w a (suc n) ≡ part w a n ++ (get_or w (a + n) 0 ∷ []) = ap (part w a) (sym (add-one n)) ∙ part_suc w a n (omega arith) in
    of_append p (part w a n) (get_or w (a + n) 0 ∷ []) (subst (λ (l : List ℕ). 0 < count p l) e m)
    (λ m'. part_in w a n p (omega arith) m' (λ j l q. k j (omega arith) q))
    (λ m'. at_head p (get_or w (a + n) 0) [] m' (λ q. k n (omega arith) (sym q)) (λ z. absurd (omega arith)))

-- ---- words that are 0
pub zeros-length : (room : ℕ) → length (zeros room) ≡ room
zeros-length room = length-replicate room 0

pub zeros_at : (room j : ℕ) → get_or (zeros room) j 0 ≡ 0
zeros_at room j = by_test (j <? room)
    (λ t. get_or-replicate room j 0 0 (ltb-true j room t))
    (λ f. word_past (zeros room) j (omega (arith, ltb-false j room f, zeros-length room)))

-- a table whose every word is 0 is zeros
pub zeros_is : (w : List ℕ) → ((j : ℕ) → j < length w → get_or w j 0 ≡ 0) → w ≡ zeros (length w)
zeros_is w h = ext_get_or 0 w (zeros (length w)) (sym (zeros-length (length w))) (λ i l. h i l ∙ sym (zeros_at (length w) i))

-- 0 stored again, or stored where it is read, is 0
pub zero_there : (w : List ℕ) (x : ℕ) → get_or (set w x 0) x 0 ≡ 0
zero_there [] x = refl
zero_there (y ∷ w) zero = refl
zero_there (y ∷ w) (suc x) = zero_there w x

pub zero_stays : (w : List ℕ) (x p : ℕ) → get_or w p 0 ≡ 0 → get_or (set w x 0) p 0 ≡ 0
zero_stays w x p z = by_test (p == x)
    (λ e. ap (λ (n : ℕ). get_or (set w x 0) n 0) (eqb-true p x e) ∙ zero_there w x)
    (λ e. get_or-set_other w x p 0 0 (eqb-false p x e) ∙ z)

-- 0 at each index of a list: how a program takes its marks back
abbrev pub cleared : List ℕ → List ℕ → List ℕ
cleared w xs = over (λ v x. set v x 0) w xs

pub cleared_length : (w xs : List ℕ) → length (cleared w xs) ≡ length w
cleared_length w [] = refl
cleared_length w (x ∷ xs) = cleared_length (set w x 0) xs ∙ length-set w x 0

pub cleared_stays : (w xs : List ℕ) (p : ℕ) → get_or w p 0 ≡ 0 → get_or (cleared w xs) p 0 ≡ 0
cleared_stays w [] p z = z
cleared_stays w (x ∷ xs) p z = cleared_stays (set w x 0) xs p (zero_stays w x p z)

pub cleared_in : (w xs : List ℕ) (p : ℕ) → 0 < count p xs → get_or (cleared w xs) p 0 ≡ 0
cleared_in w [] p h = absurd (omega arith)
cleared_in w (x ∷ xs) p h = at_head p x xs h
    (λ e. cleared_stays (set w x 0) xs p (ap (λ (n : ℕ). get_or (set w x 0) n 0) e ∙ zero_there w x))
    (λ m. cleared_in (set w x 0) xs p m)

pub cleared_other : (w xs : List ℕ) (p : ℕ) → count p xs ≡ 0 → get_or (cleared w xs) p 0 ≡ get_or w p 0
cleared_other w [] p h = refl
cleared_other w (x ∷ xs) p h = cleared_other (set w x 0) xs p (omega arith) ∙ get_or-set_other w x p 0 0 (λ e. omega (arith, h, one_eq p x e))

-- tables with the same words from an index on
pub drop-same : (k : ℕ) (v w : List ℕ) → length v ≡ length w → ((j : ℕ) → k ≤ j → get_or v j 0 ≡ get_or w j 0) → drop k v ≡ drop k w
drop-same k v w l e =
    ext_get_or 0 (drop k v) (drop k w) (length-drop k v ∙ ap (λ (n : ℕ). n - k) l ∙ sym (length-drop k w))
    (λ i _. get_or-drop k v i 0 ∙ e (k + i) (omega arith) ∙ sym (get_or-drop k w i 0))

-- ---- a table that begins with some words and is 0 past them
pub filled_none : (room : ℕ) → filled [] room ≡ zeros room
filled_none room = let e : room - 0 ≡ room = omega arith in ap zeros e

pub filled-length : (ws : List ℕ) (room : ℕ) → length ws ≤ room → length (filled ws room) ≡ room
filled-length ws room h = omega (arith, length-append ws (zeros (room - length ws)), zeros-length (room - length ws))

pub filled_at : (ws : List ℕ) (room j : ℕ) → get_or (filled ws room) j 0 ≡ get_or ws j 0
filled_at ws room j = by_test (j <? length ws)
    (λ t. get_or-append ws (zeros (room - length ws)) 0 j (ltb-true j (length ws) t))
    (λ f. let e : j ≡ length ws + (j - length ws) = omega (arith, ltb-false j (length ws) f) in
    ap (λ (i : ℕ). get_or (filled ws room) i 0) e ∙ get_or-append-add ws (zeros (room - length ws)) (j - length ws) 0
    ∙ zeros_at (room - length ws) (j - length ws) ∙ sym (word_past ws j (ltb-false j (length ws) f)))

pub filled_past : (ws : List ℕ) (room j : ℕ) → length ws ≤ j → get_or (filled ws room) j 0 ≡ 0
filled_past ws room j h = filled_at ws room j ∙ word_past ws j h

pub filled-part : (ws : List ℕ) (room : ℕ) → part (filled ws room) 0 (length ws) ≡ ws
unfolding part
filled-part ws room = take_at ws (zeros (room - length ws)) (length ws) refl

-- a table is filled by some words where it has them first, and 0 past them
pub filled_is : (w ws : List ℕ) → length ws ≤ length w → ((j : ℕ) → j < length ws → get_or w j 0 ≡ get_or ws j 0) → ((j : ℕ) → length ws ≤ j → get_or w j 0 ≡ 0) → w ≡ filled ws (length w)
filled_is w ws h e z = ext_get_or 0 w (filled ws (length w)) (sym (filled-length ws (length w) h)) (λ i l. by_test (i <? length ws)
    (λ t. e i (ltb-true i (length ws) t) ∙ sym (filled_at ws (length w) i))
    (λ f. z i (ltb-false i (length ws) f) ∙ sym (filled_past ws (length w) i (ltb-false i (length ws) f))))

-- one word more is a store
pub filled_more : (ws : List ℕ) (room v : ℕ) → length ws < room → set (filled ws room) (length ws) v ≡ filled (ws ++ (v ∷ [])) room
filled_more ws room v h =
    let d : room - length ws ≡ suc (room - suc (length ws)) = omega arith in
    let n : length (ws ++ (v ∷ [])) ≡ suc (length ws) = omega (arith, length-append ws (v ∷ [])) in
    ap (λ (k : ℕ). set (ws ++ zeros k) (length ws) v) d
    ∙ set_at ws 0 (zeros (room - suc (length ws))) v (length ws) refl
    ∙ sym (append_snoc ws v (zeros (room - suc (length ws))))
    ∙ ap (λ (k : ℕ). (ws ++ (v ∷ [])) ++ zeros (room - k)) (sym n)

-- ---- tables told word by word
pub word_below : (m : ℕ) (l : List ℕ) (i p : ℕ) → AllBelow m l → i < length l → p ≡ get_or l i 0 → p < m
unfolding AllBelow
word_below m l i p a h e = omega (arith, a i h)

pub below_tested : (m : ℕ) (l : List ℕ) → every (λ x. x <? m) l ≡ true → AllBelow m l
unfolding AllBelow
below_tested m l e j h = ltb-true (get_or l j 0) m (every_at (λ x. x <? m) 0 l j e h)

pub below_test : (m : ℕ) (l : List ℕ) → AllBelow m l → every (λ x. x <? m) l ≡ true
unfolding AllBelow
below_test m l a = every_entry (λ x. x <? m) 0 l (λ k h. lt-ltb (get_or l k 0) m (a k h))

-- the words from a on stay 0 after a store before a, and from one further on after a store at a
pub zero_from_at : (w : List ℕ) (a j : ℕ) → ZeroFrom w a → a ≤ j → get_or w j 0 ≡ 0
unfolding ZeroFrom
zero_from_at w a j z h = z j h

pub zero_from_zeros : (room a : ℕ) → ZeroFrom (zeros room) a
unfolding ZeroFrom
zero_from_zeros room a j h = zeros_at room j

pub zero_from_set : (w : List ℕ) (a i v : ℕ) → i < a → ZeroFrom w a → ZeroFrom (set w i v) a
unfolding ZeroFrom
zero_from_set w a i v h z j l = get_or-set_other w i j v 0 (omega arith) ∙ z j l

pub zero_from_more : (w : List ℕ) (a v : ℕ) → ZeroFrom w a → ZeroFrom (set w a v) (a + 1)
unfolding ZeroFrom
zero_from_more w a v z j l = get_or-set_other w a j v 0 (omega arith) ∙ z j (omega arith)

-- a part that ends where the words are 0 from is the table, filled
pub part_filled : (w : List ℕ) (n : ℕ) → n ≤ length w → ZeroFrom w n → w ≡ filled (part w 0 n) (length w)
unfolding ZeroFrom
part_filled w n h z = let e = part_length w 0 n (omega arith) in filled_is w (part w 0 n) (omega arith)
    (λ j l. let q : 0 + j ≡ j = omega arith in ap (λ (i : ℕ). get_or w i 0) (sym q) ∙ sym (part_at w 0 n j (omega arith)))
    (λ j l. z j (omega arith))

-- ---- an output that grows: p is written, then v, over the old words o
pub put_next : (p o : List ℕ) (i v : ℕ) → length p ≡ i → i < length o → set (p ++ drop i o) i v ≡ (p ++ (v ∷ [])) ++ drop (i + 1) o
put_next p o i v e l =
    ap (λ (r : List ℕ). set (p ++ r) i v) (drop-cons o i 0 l)
    ∙ set_at p (get_or o i 0) (drop (suc i) o) v i e
    ∙ sym (append_snoc p v (drop (suc i) o))
    ∙ ap (λ (j : ℕ). (p ++ (v ∷ [])) ++ drop j o) (sym (add-one i))

-- a loop that copies, one word a turn
module _ (f : List ℕ) (a : ℕ) (o o' : List ℕ) (n i : ℕ) (lf : a + n ≤ length f) (lo : n ≤ length o) (e : o' ≡ part f a i ++ drop i o) where
  pub copying_goes_on : (v : ℕ) → i < n → v ≡ get_or f (a + i) 0 → set o' i v ≡ part f a (i + 1) ++ drop (i + 1) o
  copying_goes_on v l d =
      ap (λ (r : List ℕ). set r i v) e
      ∙ put_next (part f a i) o i v (part_length f a i (omega arith)) (omega arith)
      ∙ ap (λ (r : List ℕ). r ++ drop (i + 1) o) (ap (λ (x : ℕ). part f a i ++ (x ∷ [])) d ∙ sym (part_suc f a i (omega arith)))

  pub copying_ends : i ≤ n → n ≤ i → o' ≡ part f a n ++ drop n o
  copying_ends l r = let q : i ≡ n = omega arith in rw q at e

pub copying_begins : (f : List ℕ) (a : ℕ) (o : List ℕ) → o ≡ part f a 0 ++ o
unfolding part
copying_begins f a o = refl

-- a loop that stores one word all over
pub filling_goes_on : (s₀ s : List ℕ) (v i : ℕ) → s ≡ replicate i v ++ drop i s₀ → i < length s₀ → set s i v ≡ replicate (i + 1) v ++ drop (i + 1) s₀
filling_goes_on s₀ s v i e l = ap (λ (r : List ℕ). set r i v) e ∙ fill_more i v s₀ l

pub filling_ends : (s₀ s : List ℕ) (v i : ℕ) → s ≡ replicate i v ++ drop i s₀ → i ≤ length s₀ → length s ≤ i → length s ≡ length s₀ → s ≡ replicate (length s₀) v
filling_ends s₀ s v i e l r q =
    let n : i ≡ length s₀ = omega arith in
    (rw n at e) ∙ ap (λ (t : List ℕ). replicate (length s₀) v ++ t) (drop-length s₀) ∙ append-nil (replicate (length s₀) v)

-- ---- counts kept in a table: one more at each index of a list
abbrev pub bump : List ℕ → ℕ → List ℕ
bump t o = set t o (suc (get_or t o 0))

pub bumps : (os t : List ℕ) (p : ℕ) → p < length t → get_or (over bump t os) p 0 ≡ get_or t p 0 + count p os
bumps [] t p h = omega arith
bumps (o ∷ os) t p h = bumps os (bump t o) p (rw (length-set t o (suc (get_or t o 0))) h) ∙ by_test (p == o)
    (λ y. let e : p ≡ o = eqb-true p o y in
    omega (arith, one_eq p o e, subst (λ (z : ℕ). get_or (set t z (suc (get_or t z 0))) p 0 ≡ suc (get_or t p 0)) e (get_or-set_same t p (suc (get_or t p 0)) 0 h)))
    (λ f. omega (arith, one_ne p o (eqb-false p o f), get_or-set_other t o p (suc (get_or t o 0)) 0 (eqb-false p o f)))

pub bumps_length : (os t : List ℕ) → length (over bump t os) ≡ length t
bumps_length [] t = refl
bumps_length (o ∷ os) t = bumps_length os (bump t o) ∙ length-set t o (suc (get_or t o 0))
