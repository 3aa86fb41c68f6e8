-- What a table holds after words were written to it, at once or one a turn, and when two tables are equal or one is 0.
use mathlib.Core.Path.{◌≡◌, refl, sym, ◌∙◌, ap, subst}
use mathlib.Core.Bool.{true, false}
use mathlib.Core.List.{List, [], ◌∷◌, ◌++◌}
use Prim.Native.Nat.{ℕ, ◌+◌, ◌-◌, ◌≤◌, ◌<◌}
use native.Mathlib.Omega.{arith}
use borrow.Author.Tests.{ltb-true, ltb-false, eqb-true, eqb-false, eq-eqb}
use lib.ListN.{length, get_or, take, drop, set, replicate, length-append, length-drop, length-set, take-append-drop, get_or-append}
use borrow.Rule.Slice.PartMut.{put_mid}
use lib.Pointwise.{pointwise}
use lib.Seq.{drop-drop, length-take-le, get_or-take, get_or-drop, get_or-append-add, get_or-set_same, get_or-set_other, ext_get_or}
use Rattle.std.specs.Prelude.{◌==◌, ◌&&◌}
use Rattle.laws.specs.Tests.{◌<?◌}
use Rattle.laws.specs.Words.{part, zeros, filled}
use Rattle.laws.proofs.Tests.{by_test, true≢false, and_l, and_r}
use Rattle.laws.proofs.Indices.{every_at, every_entry}
use Rattle.laws.proofs.Words.{part_is, part_at, part_length, zeros-length, filled-length, filled_at, filled_past, zeros_at, zeros_is}
use Rattle.words.specs.Tables.{written, same_words, all_zero}

-- ---- words written into a table, word by word
module _ (t : List ℕ) (a : ℕ) (ws : List ℕ) (h : a + length ws ≤ length t) where
  pub written-length : length (written t a ws) ≡ length t
  unfolding written
  written-length = omega (
    arith,
    length-append (take a t) (ws ++ drop (a + length ws) t),
    length-append ws (drop (a + length ws) t),
    length-take-le a t (omega arith),
    length-drop (a + length ws) t,
  )

  pub written-before : (j : ℕ) → j < a → get_or (written t a ws) j 0 ≡ get_or t j 0
  unfolding written
  written-before j l = get_or-append (take a t) (ws ++ drop (a + length ws) t) 0 j (omega (arith, length-take-le a t (omega arith))) ∙ get_or-take a t j 0 l

  from : (k : ℕ) → get_or (written t a ws) (a + k) 0 ≡ get_or (ws ++ drop (a + length ws) t) k 0
  unfolding written
  from k = let e : length (take a t) + k ≡ a + k = omega (arith, length-take-le a t (omega arith)) in
      ap (λ (i : ℕ). get_or (take a t ++ (ws ++ drop (a + length ws) t)) i 0) (sym e) ∙ get_or-append-add (take a t) (ws ++ drop (a + length ws) t) k 0

  pub written_at : (k : ℕ) → k < length ws → get_or (written t a ws) (a + k) 0 ≡ get_or ws k 0
  written_at k l = from k ∙ get_or-append ws (drop (a + length ws) t) 0 k l

  pub written_after : (j : ℕ) → a + length ws ≤ j → get_or (written t a ws) j 0 ≡ get_or t j 0
  written_after j l =
      let e : a + (length ws + (j - (a + length ws))) ≡ j = omega arith in
      let q : a + length ws + (j - (a + length ws)) ≡ j = omega arith in
      ap (λ (i : ℕ). get_or (written t a ws) i 0) (sym e) ∙ from (length ws + (j - (a + length ws)))
      ∙ get_or-append-add ws (drop (a + length ws) t) (j - (a + length ws)) 0
      ∙ get_or-drop (a + length ws) t (j - (a + length ws)) 0 ∙ ap (λ (i : ℕ). get_or t i 0) q

  -- the part that was written
  pub written-part : part (written t a ws) a (length ws) ≡ ws
  written-part = part_is (written t a ws) ws a (omega (arith, written-length)) written_at

  -- and a table is told by these
  pub written_is : (w : List ℕ) → length w ≡ length t → ((j : ℕ) → j < a → get_or w j 0 ≡ get_or t j 0) → ((k : ℕ) → k < length ws → get_or w (a + k) 0 ≡ get_or ws k 0)
      → ((j : ℕ) → a + length ws ≤ j → get_or w j 0 ≡ get_or t j 0) → w ≡ written t a ws
  written_is w e before at after = ext_get_or 0 w (written t a ws) (e ∙ sym written-length) (λ j l. by_test (j <? a)
      (λ y. before j (ltb-true j a y) ∙ sym (written-before j (ltb-true j a y)))
      (λ f. by_test (j <? a + length ws)
      (λ y. let k : a + (j - a) ≡ j = omega (arith, ltb-false j a f) in
      let s : j - a < length ws = omega (arith, ltb-false j a f, ltb-true j (a + length ws) y) in
      subst (λ (i : ℕ). get_or w i 0 ≡ get_or (written t a ws) i 0) k (at (j - a) s ∙ sym (written_at (j - a) s)))
      (λ g. after j (ltb-false j (a + length ws) g) ∙ sym (written_after j (ltb-false j (a + length ws) g)))))

-- nothing written is the table as it was
pub written_none : (t : List ℕ) (a : ℕ) → a ≤ length t → written t a [] ≡ t
unfolding written
written_none t a h = let e : a + 0 ≡ a = omega arith in ap (λ (k : ℕ). take a t ++ drop k t) e ∙ take-append-drop a t

-- words written at the start of a table that is 0 fill it
pub written-filled : (ws : List ℕ) (room : ℕ) → length ws ≤ room → written (zeros room) 0 ws ≡ filled ws room
written-filled ws room h = sym (written_is (zeros room) 0 ws (omega (arith, zeros-length room)) (filled ws room) (filled-length ws room h ∙ sym (zeros-length room))
    (λ j l. absurd (omega arith))
    (λ k l. let e : 0 + k ≡ k = omega arith in ap (λ (i : ℕ). get_or (filled ws room) i 0) e ∙ filled_at ws room k)
    (λ j l. filled_past ws room j (omega arith) ∙ sym (zeros_at room j)))

-- 0 written over the words that fill a table leaves nothing used
pub written-zeros : (ws : List ℕ) (room : ℕ) → length ws ≤ room → written (filled ws room) 0 (zeros (length ws)) ≡ zeros room
written-zeros ws room h =
    let n : length (zeros (length ws)) ≡ length ws = zeros-length (length ws) in
    sym (written_is (filled ws room) 0 (zeros (length ws)) (omega (arith, filled-length ws room h)) (zeros room) (zeros-length room ∙ sym (filled-length ws room h))
    (λ j l. absurd (omega arith))
    (λ k l. zeros_at room (0 + k) ∙ sym (zeros_at (length ws) k))
    (λ j l. zeros_at room j ∙ sym (filled_past ws room j (omega arith))))

-- words put in the place of k from a on, as a slice of the table takes them
pub put_mid_written : (t ws vs : List ℕ) (a k : ℕ) → vs ≡ ws → length ws ≡ k → put_mid a k t vs ≡ written t a ws
unfolding written
put_mid_written t ws vs a k e l =
    ap (λ (c : List ℕ). take a t ++ (c ++ drop k (drop a t))) e ∙ ap (λ (c : List ℕ). take a t ++ (ws ++ c)) (drop-drop k a t ∙ ap (λ (j : ℕ). drop (a + j) t) (sym l))

-- one word over a range of a table
pub range_filled : (t vs : List ℕ) (a n v : ℕ) → a + n ≤ length t → vs ≡ replicate (length (take (a + n - a) (drop a t))) v → vs ≡ replicate n v
range_filled t vs a n v h e =
    let q : length (take (a + n - a) (drop a t)) ≡ n = omega (arith, length-take-le (a + n - a) (drop a t) (omega (arith, length-drop a t))) in
    e ∙ ap (λ (k : ℕ). replicate k v) q

-- ---- a loop that writes one word a turn: after i turns the first i of them are written
pub record Writing (t : List ℕ) (a : ℕ) (w : ℕ → ℕ) (i : ℕ) (s : List ℕ) : Type 0 where
  pub long : length s ≡ length t
  pub done : (k : ℕ) → k < i → get_or s (a + k) 0 ≡ w k
  pub before : (j : ℕ) → j < a → get_or s j 0 ≡ get_or t j 0
  pub after : (j : ℕ) → a + i ≤ j → get_or s j 0 ≡ get_or t j 0

pub writing_begins : (t : List ℕ) (a : ℕ) (w : ℕ → ℕ) → Writing t a w 0 t
writing_begins t a w = record { long = refl; done = λ k l. absurd (omega arith); before = λ j l. refl; after = λ j l. refl }

pub writing_goes_on : (t : List ℕ) (a : ℕ) (w : ℕ → ℕ) (i : ℕ) (s : List ℕ) (v : ℕ) → Writing t a w i s → a + i < length t → v ≡ w i → Writing t a w (i + 1) (set s (a + i) v)
writing_goes_on t a w i s v g l e = record {
  long = length-set s (a + i) v ∙ g.long;
  done = λ k b. by_test (k == i)
      (λ y. let q = eqb-true k i y in ap (λ (n : ℕ). get_or (set s (a + i) v) (a + n) 0) q ∙ get_or-set_same s (a + i) v 0 (omega (arith, g.long)) ∙ e ∙ ap w (sym q))
      (λ f. let n = eqb-false k i f in get_or-set_other s (a + i) (a + k) v 0 (omega arith) ∙ g.done k (omega arith));
  before = λ j b. get_or-set_other s (a + i) j v 0 (omega arith) ∙ g.before j b;
  after = λ j b. get_or-set_other s (a + i) j v 0 (omega arith) ∙ g.after j (omega arith);
}

pub writing_ends : (t : List ℕ) (a : ℕ) (w : ℕ → ℕ) (i : ℕ) (s ws : List ℕ) → Writing t a w i s → length ws ≡ i → a + i ≤ length t → ((k : ℕ) → k < i → get_or ws k 0 ≡ w k) → s ≡ written t a ws
writing_ends t a w i s ws g e h same = written_is t a ws (omega arith) s g.long g.before
    (λ k l. g.done k (omega arith) ∙ sym (same k (omega arith)))
    (λ j l. g.after j (omega arith))

-- the same, as `copy` has it
pub record Copying (f : List ℕ) (b : ℕ) (t : List ℕ) (a i : ℕ) (s : List ℕ) : Type 0 where
  pub writing : Writing t a (λ k. get_or f (b + k) 0) i s

pub copy_begins : (f : List ℕ) (b : ℕ) (t : List ℕ) (a : ℕ) → Copying f b t a 0 t
copy_begins f b t a = record { writing = writing_begins t a (λ k. get_or f (b + k) 0) }

module _ (f : List ℕ) (b : ℕ) (t : List ℕ) (a n i : ℕ) (s : List ℕ) (g : Copying f b t a i s) (hf : b + n ≤ length f) (h : a + n ≤ length t) where
  pub copy_goes_on : (v : ℕ) → i < n → v ≡ get_or f (b + i) 0 → Copying f b t a (i + 1) (set s (a + i) v)
  copy_goes_on v l e = record { writing = writing_goes_on t a (λ k. get_or f (b + k) 0) i s v g.writing (omega arith) e }

  pub copy_ends : i ≤ n → n ≤ i → s ≡ written t a (part f b n)
  copy_ends l r =
      let e : i ≡ n = omega arith in
      writing_ends t a (λ k. get_or f (b + k) 0) i s (part f b n) g.writing (part_length f b n hf ∙ sym e) (omega arith) (λ k c. part_at f b n k (omega arith))

-- ---- two tables compared
pub same_words_lem : (a b : List ℕ) → same_words a b ≡ true → a ≡ b
unfolding same_words
same_words_lem [] [] e = refl
same_words_lem [] (y ∷ ys) e = true≢false false e refl
same_words_lem (x ∷ xs) [] e = true≢false false e refl
same_words_lem (x ∷ xs) (y ∷ ys) e = λ i. eqb-true x y (and_l (x == y) (same_words xs ys) e) i ∷ same_words_lem xs ys (and_r (x == y) (same_words xs ys) e) i

pub words_same : (a : List ℕ) → same_words a a ≡ true
unfolding same_words
words_same [] = refl
words_same (x ∷ xs) = rw (eq-eqb x x refl) (words_same xs)

pub words_differ : (a b : List ℕ) → (a ≡ b → ⊥) → same_words a b ≡ false
words_differ a b n = by_test (same_words a b) (λ t. absurd (n (same_words_lem a b t))) (λ f. f)

-- the same as a slice tests it
pub same_words-eqb : (a b : List ℕ) → pointwise (λ x y. x == y) a b ≡ same_words a b
unfolding same_words
same_words-eqb [] [] = refl
same_words-eqb [] (y ∷ ys) = refl
same_words-eqb (x ∷ xs) [] = refl
same_words-eqb (x ∷ xs) (y ∷ ys) = ap (λ b. (x == y) && b) (same_words-eqb xs ys)

-- ---- a table of which nothing is used
pub all_zero_lem : (s : List ℕ) → all_zero s ≡ true → s ≡ zeros (length s)
unfolding all_zero
all_zero_lem s e = zeros_is s (λ j l. eqb-true (get_or s j 0) 0 (every_at (λ x. x == 0) 0 s j e l))

pub zero_all : (n : ℕ) → all_zero (zeros n) ≡ true
unfolding all_zero
zero_all n = every_entry (λ x. x == 0) 0 (zeros n) (λ k l. eq-eqb (get_or (zeros n) k 0) 0 (zeros_at n k))
