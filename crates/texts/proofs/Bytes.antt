-- Laws of text as bytes: what stands before a byte, lines and fields from a place on, digits, and words stored in a table.
use mathlib.Core.Path.{◌≡◌, refl, sym, ◌∙◌, ap, subst}
use mathlib.Core.Bool.{true, false}
use mathlib.Core.List.{List, [], ◌∷◌, ◌++◌}
use Prim.Native.Nat.{ℕ, suc, ◌+◌, ◌-◌, ◌*◌, ◌<◌, ◌≤◌}
use native.Mathlib.Omega.{arith}
use native.Mathlib.Numerals.{add-one}
use borrow.Author.Tests.{eqb-true, eqb-false, eq-eqb, ne_eqb, le-leb, lt-leb, leb-true, leb-false}
use lib.ListN.{length, get_or, take, drop, set, length-drop, length-set}
use lib.Seq.{drop-cons, drop-length, drop-drop}
use Rattle.std.proofs.Common.{◌⊎◌, inl, inr}
use Rattle.std.specs.Prelude.{Option, Some, None, ◌==◌}
use Rattle.laws.specs.Tests.{◌≤?◌}
use Rattle.laws.proofs.Tests.{by_test, if_true, if_false}
use Rattle.texts.specs.Text.{before, longer, lines, fields, digits, number_of, stored, tab, newline}
use Rattle.texts.specs.Meanings.{Until, fields_from}

-- ---- what stands before a byte
module _ (c x : ℕ) (xs : List ℕ) where
  pub before_meets : x ≡ c → before c (x ∷ xs) ≡ []
  unfolding before
  before_meets e = rw (eq-eqb x c e)

  pub before_passes : (x ≡ c → ⊥) → before c (x ∷ xs) ≡ x ∷ before c xs
  unfolding before
  before_passes n = rw (ne_eqb x c n)

pub before_nil : (c : ℕ) → before c [] ≡ []
unfolding before
before_nil c = refl

pub before-take : (c : ℕ) (l : List ℕ) → take (length (before c l)) l ≡ before c l
before-take c [] = rw (before_nil c)
before-take c (x ∷ xs) = by_test (x == c)
    (λ t. rw (before_meets c x xs (eqb-true x c t)))
    (λ f. rw (before_passes c x xs (eqb-false x c f)) (ap (λ (l : List ℕ). x ∷ l) (before-take c xs)))

pub before_short : (c : ℕ) (l : List ℕ) → length (before c l) ≤ length l
unfolding before
before_short c [] = omega arith
before_short c (x ∷ xs) = by_test (x == c)
    (λ t. rw (before_meets c x xs (eqb-true x c t)) (omega arith))
    (λ f. rw (before_passes c x xs (eqb-false x c f)) (omega (arith, before_short c xs)))

-- the search for a byte from a place on
pub record Seeking (s : List ℕ) (at stop i : ℕ) : Type 0 where
  pub rest : i + length (before stop (drop i s)) ≡ at + length (before stop (drop at s))
  pub inside : i ≤ length s

pub seek_begins : (s : List ℕ) (at stop : ℕ) → at ≤ length s → Seeking s at stop at
seek_begins s at stop l = record { rest = refl; inside = l }

module _ (s : List ℕ) (at stop i : ℕ) (g : Seeking s at stop i) where
  pub seek_goes_on : i < length s → (get_or s i 0 ≡ stop → ⊥) → Seeking s at stop (i + 1)
  seek_goes_on l n = record { rest = more ∙ g.rest; inside = omega arith }
    where
      cut : before stop (drop i s) ≡ get_or s i 0 ∷ before stop (drop (i + 1) s)
      cut = ap (λ (l : List ℕ). before stop l) (drop-cons s i 0 l) ∙ before_passes stop (get_or s i 0) (drop (suc i) s) n ∙ ap (λ (k : ℕ). get_or s i 0 ∷ before stop (drop k s)) (sym (add-one i))

      more : i + 1 + length (before stop (drop (i + 1) s)) ≡ i + length (before stop (drop i s))
      more = omega (arith, ap length cut)

  pub seek_finds : i < length s → get_or s i 0 ≡ stop → Until s at stop i
  seek_finds l e = record { is = omega (arith, ap length cut, g.rest); inside = omega arith }
    where
      cut : before stop (drop i s) ≡ []
      cut = ap (λ (l : List ℕ). before stop l) (drop-cons s i 0 l) ∙ before_meets stop (get_or s i 0) (drop (suc i) s) e

  pub seek_ends : length s ≤ i → Until s at stop (length s)
  seek_ends l = record { is = omega (arith, ap length cut, g.rest); inside = omega arith }
    where
      whole : i ≡ length s
      whole = omega (arith, g.inside)

      cut : before stop (drop i s) ≡ []
      cut = ap (λ (k : ℕ). before stop (drop k s)) whole ∙ ap (λ (l : List ℕ). before stop l) (drop-length s) ∙ before_nil stop

-- the part of a text up to the place that was found
pub until_part : (s : List ℕ) (at stop e : ℕ) → Until s at stop e → take (e - at) (drop at s) ≡ before stop (drop at s)
until_part s at stop e u =
    let q : e - at ≡ length (before stop (drop at s)) = omega (arith, u.is) in
    ap (λ (k : ℕ). take k (drop at s)) q ∙ before-take stop (drop at s)

-- ---- digits
pub record Reckoned (s : List ℕ) (i v : ℕ) : Type 0 where
  pub same : digits v (drop i s) ≡ digits 0 s
  pub small : v ≤ 4294967295
  pub inside : i ≤ length s

pub reckon_begins : (s : List ℕ) → Reckoned s 0 0
reckon_begins s = record { same = refl; small = omega arith; inside = omega arith }

module _ (v b : ℕ) (bs : List ℕ) where
  pub digits_more : 48 ≤ b → b ≤ 57 → 10 * v + (b - 48) ≤ 4294967295 → digits v (b ∷ bs) ≡ digits (10 * v + (b - 48)) bs
  unfolding digits
  digits_more l h m = rw (le-leb 48 b l, le-leb b 57 h, le-leb (10 * v + (b - 48)) 4294967295 m)

  pub digits_low : b < 48 → digits v (b ∷ bs) ≡ None
  unfolding digits
  digits_low l = rw (lt-leb 48 b l)

  pub digits_high : 57 < b → digits v (b ∷ bs) ≡ None
  unfolding digits
  digits_high l = rw (le-leb 48 b (omega arith), lt-leb b 57 l)

  pub digits_large : 48 ≤ b → b ≤ 57 → 4294967295 < 10 * v + (b - 48) → digits v (b ∷ bs) ≡ None
  unfolding digits
  digits_large l h m = rw (le-leb 48 b l, le-leb b 57 h, lt-leb (10 * v + (b - 48)) 4294967295 m)

module _ (s : List ℕ) (i v : ℕ) (g : Reckoned s i v) (in-s : i < length s) where
  from : digits 0 s ≡ digits v (get_or s i 0 ∷ drop (suc i) s)
  from = sym g.same ∙ ap (λ (l : List ℕ). digits v l) (drop-cons s i 0 in-s)

  pub reckon_goes_on : (w : ℕ) → 48 ≤ get_or s i 0 → get_or s i 0 ≤ 57 → w ≡ 10 * v + (get_or s i 0 - 48) → w ≤ 4294967295 → Reckoned s (i + 1) w
  reckon_goes_on w l h e m = record {
    same = sym (from ∙ digits_more v (get_or s i 0) (drop (suc i) s) l h (omega (arith, e)) ∙ ap (λ (k : ℕ). digits k (drop (suc i) s)) (sym e) ∙ ap (λ (k : ℕ). digits w (drop k s)) (sym (add-one i)));
    small = m;
    inside = omega arith;
  }

  pub reckon_none : (get_or s i 0 < 48) ⊎ ((48 ≤ get_or s i 0) × (57 < get_or s i 0)) → None ≡ digits 0 s
  reckon_none (inl l) = sym (from ∙ digits_low v (get_or s i 0) (drop (suc i) s) l)
  reckon_none (inr (_, l)) = sym (from ∙ digits_high v (get_or s i 0) (drop (suc i) s) l)

  pub reckon_large : 48 ≤ get_or s i 0 → get_or s i 0 ≤ 57 → 4294967295 < 10 * v + (get_or s i 0 - 48) → None ≡ digits 0 s
  reckon_large l h m = sym (from ∙ digits_large v (get_or s i 0) (drop (suc i) s) l h m)

pub reckon_ends : (s : List ℕ) (i v : ℕ) → Reckoned s i v → length s ≤ i → Some v ≡ digits 0 s
unfolding digits
reckon_ends s i v g l =
    let q : i ≡ length s = omega (arith, g.inside) in
    sym (ap (λ (k : List ℕ). digits v k) (ap (λ (k : ℕ). drop k s) q ∙ drop-length s)) ∙ g.same

-- ---- a number
pub number_empty : (s : List ℕ) → true ≡ (length s == 0) → None ≡ number_of s
unfolding number_of
number_empty [] e = refl
number_empty (x ∷ xs) e = absurd (omega (arith, eqb-true (length (x ∷ xs)) 0 (sym e)))

pub number-leading : (s : List ℕ) → 1 < length s → get_or s 0 0 ≡ 48 → None ≡ number_of s
unfolding number_of
number-leading [] l e = absurd (omega (arith, l))
number-leading (x ∷ []) l e = absurd (omega (arith, l))
number-leading (x ∷ y ∷ xs) l e = rw (eq-eqb x 48 e)

pub number_is : (s : List ℕ) (r : Option ℕ) → false ≡ (length s == 0) → (length s ≤ 1) ⊎ ((1 < length s) × (get_or s 0 0 ≡ 48 → ⊥)) → r ≡ digits 0 s → r ≡ number_of s
unfolding number_of
number_is [] r z o e = cc
number_is (x ∷ []) r z o e = e
number_is (x ∷ y ∷ xs) r z (inl l) e = absurd (omega (arith, l))
number_is (x ∷ y ∷ xs) r z (inr (_, n)) e = rw (ne_eqb x 48 n) e

-- ---- words stored
pub stored-length : (ws t : List ℕ) (i : ℕ) → length (stored t i ws) ≡ length t
unfolding stored
stored-length [] t i = refl
stored-length (w ∷ ws) t i = stored-length ws (set t i w) (i + 1) ∙ length-set t i w

pub stored-append : (ws vs t : List ℕ) (i : ℕ) → stored t i (ws ++ vs) ≡ stored (stored t i ws) (i + length ws) vs
unfolding stored
stored-append [] vs t i = let e : i + 0 ≡ i = omega arith in ap (λ (k : ℕ). stored t k vs) (sym e)
stored-append (w ∷ ws) vs t i =
    let e : i + 1 + length ws ≡ i + suc (length ws) = omega arith in
    stored-append ws vs (set t i w) (i + 1) ∙ ap (λ (k : ℕ). stored (stored (set t i w) (i + 1) ws) k vs) e

-- ---- fields from a place on
pub fields_past : (x : ℕ) (xs : List ℕ) (k : ℕ) → fields_from (x ∷ xs) (suc k) ≡ fields_from xs k
fields_past x xs k = by_test (k ≤? length xs)
    (λ t. rw (t, le-leb (suc k) (suc (length xs)) (omega (arith, leb-true k (length xs) t))))
    (λ f. rw (f, lt-leb (suc k) (suc (length xs)) (omega (arith, leb-false k (length xs) f))))

pub fields_first : (l : List ℕ) → fields l ≡ before tab l ∷ fields_from l (length (before tab l) + 1)
unfolding fields before
fields_first [] = refl
fields_first (x ∷ xs) = by_test (x == tab)
    (λ t. rw t (ap (λ (r : List (List ℕ)). [] ∷ r) (sym (fields_past x xs 0 ∙ if_true (0 ≤? length xs) (fields xs) [] (le-leb 0 (length xs) (omega arith))))))
    (λ f. rw f (ap (longer x) (fields_first xs) ∙ ap (λ (r : List (List ℕ)). (x ∷ before tab xs) ∷ r)
    (sym (ap (λ (k : ℕ). fields_from (x ∷ xs) k) (next_place (length (before tab xs))) ∙ fields_past x xs (length (before tab xs) + 1)))))
  where
    next_place : (n : ℕ) → suc n + 1 ≡ suc (n + 1)
    next_place n = omega arith

pub fields_at : (line : List ℕ) (at k : ℕ) → at ≤ length line → fields_from (drop at line) k ≡ fields_from line (at + k)
fields_at line at k l = by_test (k ≤? length (drop at line))
    (λ t. rw (t, le-leb (at + k) (length line) (omega (arith, leb-true k (length (drop at line)) t, length-drop at line))) (ap fields (drop-drop k at line)))
    (λ f. rw (f, lt-leb (at + k) (length line) (omega (arith, leb-false k (length (drop at line)) f, length-drop at line))))

pub fields_go_on : (line : List ℕ) (at : ℕ) → at ≤ length line
    → fields_from line at ≡ before tab (drop at line) ∷ fields_from line (at + length (before tab (drop at line)) + 1)
fields_go_on line at l =
    let n = length (before tab (drop at line)) in
    let e : at + (n + 1) ≡ at + n + 1 = omega arith in
    if_true (at ≤? length line) (fields (drop at line)) [] (le-leb at (length line) l)
    ∙ fields_first (drop at line)
    ∙ ap (λ (r : List (List ℕ)). before tab (drop at line) ∷ r) (fields_at line at (n + 1) l ∙ ap (λ (k : ℕ). fields_from line k) e)

pub fields_end : (line : List ℕ) (at : ℕ) → length line < at → fields_from line at ≡ []
fields_end line at l = if_false (at ≤? length line) (fields (drop at line)) [] (lt-leb at (length line) l)

-- ---- lines
drop_behind : (x n : ℕ) (l : List ℕ) → drop (suc n + 1) (x ∷ l) ≡ drop (n + 1) l
drop_behind x n l = let e : suc n + 1 ≡ suc (n + 1) = omega arith in ap (λ (k : ℕ). drop k (x ∷ l)) e

lines-longer : (x : ℕ) (l : List ℕ) → longer x (lines l) ≡ (x ∷ before newline l) ∷ lines (drop (suc (length (before newline l)) + 1) (x ∷ l))
unfolding lines before
lines-longer x [] = refl
lines-longer x (y ∷ ys) = by_test (y == newline)
    (λ t. rw t)
    (λ f. rw f (ap (longer x) (lines-longer y ys) ∙ ap (λ (r : List ℕ). (x ∷ y ∷ before newline ys) ∷ lines r) (sym (drop_behind x (suc (length (before newline ys))) (y ∷ ys)))))

pub lines_first : (x : ℕ) (xs : List ℕ) → lines (x ∷ xs) ≡ before newline (x ∷ xs) ∷ lines (drop (length (before newline (x ∷ xs)) + 1) (x ∷ xs))
unfolding lines before
lines_first x xs = by_test (x == newline) (λ t. rw t) (λ f. rw f (lines-longer x xs))

pub lines_go_on : (text : List ℕ) (at : ℕ) → at < length text
    → lines (drop at text) ≡ before newline (drop at text) ∷ lines (drop (at + length (before newline (drop at text)) + 1) text)
lines_go_on text at l =
    let n = length (before newline (drop at text)) in
    let e : at + (n + 1) ≡ at + n + 1 = omega arith in
    subst (λ (r : List ℕ). lines r ≡ before newline r ∷ lines (drop (length (before newline r) + 1) r)) (sym (drop-cons text at 0 l)) (lines_first (get_or text at 0) (drop (suc at) text))
    ∙ ap (λ (r : List ℕ). before newline (drop at text) ∷ lines r) (drop-drop (n + 1) at text ∙ ap (λ (k : ℕ). drop k text) e)
