-- The pins of a cell by their names, in the code's shape.
use mathlib.Core.Path.{◌≡◌, refl, sym, ◌∙◌, ap}
use mathlib.Core.Bool.{Bool, true, false}
use mathlib.Core.List.{List, [], ◌∷◌}
use Prim.Native.Nat.{ℕ, suc, ◌+◌, ◌-◌, ◌*◌, ◌<◌, ◌≤◌}
use native.Mathlib.Numerals.{add-one}
use native.Mathlib.Omega.{arith}
use lib.ListN.{length, get_or, drop}
use lib.Seq.{drop-cons, drop-length}
use Rattle.std.specs.Prelude.{Some, None}
use Rattle.laws.specs.Lists.{keep}
use Rattle.laws.specs.Words.{part}
use Rattle.laws.proofs.Words.{part_length, part_at}
use Rattle.roles.specs.Reading.{Held, Laid, has_name, either_in, cell_pins, entry_of}

-- ---- entries
pub entry_first : (x : ℕ) (l : List ℕ) → entry_of (x ∷ l) 0 ≡ Some x
unfolding entry_of
entry_first x l = refl

pub entry_next : (x : ℕ) (l : List ℕ) (k : ℕ) → entry_of (x ∷ l) (suc k) ≡ entry_of l k
unfolding entry_of
entry_next x l k = refl

pub entry_none : (k : ℕ) → entry_of [] k ≡ None
unfolding entry_of
entry_none k = refl

kept : (f : ℕ → Bool) (x : ℕ) (l : List ℕ) → f x ≡ true → keep f (x ∷ l) ≡ x ∷ keep f l
kept f x l t = rw t

passed_by : (f : ℕ → Bool) (x : ℕ) (l : List ℕ) → f x ≡ false → keep f (x ∷ l) ≡ keep f l
passed_by f x l t = rw t

-- ---- the search along a list: what is left to find is what was asked for
pub record Searching (l pins : List ℕ) (a b k i left : ℕ) : Type 0 where
  pub inside : i ≤ length l
  pub rest : entry_of (either_in pins a b (drop i l)) left ≡ entry_of (either_in pins a b l) k

pub searching_begins : (l pins : List ℕ) (a b k : ℕ) → Searching l pins a b k 0 k
searching_begins l pins a b k = record { inside = omega arith; rest = refl }

module _ (l pins : List ℕ) (a b k i left : ℕ) (s : Searching l pins a b k i left) where
  pub none_left : length l ≤ i → None ≡ entry_of (either_in pins a b l) k
  none_left h =
      let e : i ≡ length l = omega (arith, s.inside, h) in
      sym (entry_none left) ∙ ap (λ (t : List ℕ). entry_of (either_in pins a b t) left) (sym (drop-length l) ∙ ap (λ (j : ℕ). drop j l) (sym e)) ∙ s.rest

  module _ (h : i < length l) where
    abbrev here : ℕ
    here = get_or l i 0

    abbrev others : List ℕ
    others = either_in pins a b (drop (i + 1) l)

    unfolded : entry_of (either_in pins a b (here ∷ drop (i + 1) l)) left ≡ entry_of (either_in pins a b l) k
    unfolded = ap (λ (t : List ℕ). entry_of (either_in pins a b t) left) (ap (λ (j : ℕ). here ∷ drop j l) (add-one i) ∙ sym (drop-cons l i 0 h)) ∙ s.rest

    module _ (t : has_name pins a b (get_or l i 0) ≡ true) where
      kept_here : entry_of (here ∷ others) left ≡ entry_of (either_in pins a b l) k
      kept_here = ap (λ (t' : List ℕ). entry_of t' left) (sym (kept (has_name pins a b) here (drop (i + 1) l) t)) ∙ unfolded

      pub entry_found : left ≡ 0 → Some (get_or l i 0) ≡ entry_of (either_in pins a b l) k
      entry_found z = sym (entry_first here others) ∙ ap (entry_of (here ∷ others)) (sym z) ∙ kept_here

      pub entry_passed : (left ≡ 0 → ⊥) → Searching l pins a b k (i + 1) (left - 1)
      entry_passed m = record {
        inside = omega arith;
        rest = let z : left ≡ suc (left - 1) = omega (arith, m) in sym (entry_next here others (left - 1)) ∙ ap (entry_of (here ∷ others)) (sym z) ∙ kept_here;
      }

    pub entry_skipped : has_name pins a b (get_or l i 0) ≡ false → Searching l pins a b k (i + 1) left
    entry_skipped f = record {
      inside = omega arith;
      rest = ap (λ (t' : List ℕ). entry_of t' left) (sym (passed_by (has_name pins a b) here (drop (i + 1) l) f)) ∙ unfolded;
    }

-- ---- the list of a cell
module _ (starts list pins : List ℕ) (c : ℕ) (w : Laid starts list pins) (l : c + 1 < length starts) where
  pub end_behind : get_or starts c 0 ≤ get_or starts (c + 1) 0
  end_behind = w.rise c l

  pub cell_held : Held list pins (get_or starts c 0) (get_or starts (c + 1) 0 - get_or starts c 0)
  cell_held = record {
    fits = omega (arith, w.rise c l, w.within (c + 1) l);
    entries = λ j b. w.entries c (get_or starts c 0 + j) l (omega arith) (omega (arith, w.rise c l));
  }

  pub end_within : get_or starts (c + 1) 0 ≤ length list
  end_within = w.within (c + 1) l

  pub own_held : (i : ℕ) → i < length (cell_pins starts list c) → 5 * get_or (cell_pins starts list c) i 0 + 4 < length pins
  unfolding part
  own_held i h =
      let q : length (cell_pins starts list c) ≡ get_or starts (c + 1) 0 - get_or starts c 0 = part_length list (get_or starts c 0) (get_or starts (c + 1) 0 - get_or starts c 0) (omega (arith, end_behind, end_within)) in
      let b : i < get_or starts (c + 1) 0 - get_or starts c 0 = omega (arith, q, h) in
      rw (part_at list (get_or starts c 0) (get_or starts (c + 1) 0 - get_or starts c 0) i b) (cell_held.entries i b)
