-- The test for markers, in the code's shape.
use mathlib.Core.Path.{◌≡◌, refl, sym, ◌∙◌, ap}
use mathlib.Core.Bool.{Bool, true, false, not, ◌&&◌}
use mathlib.Core.List.{List, [], ◌∷◌}
use Prim.Native.Nat.{ℕ, ◌+◌, ◌-◌, ◌*◌, ◌<◌, ◌≤◌}
use native.Mathlib.Omega.{arith}
use lib.ListN.{length, get_or}
use Rattle.std.specs.Prelude.{Option, None, Some, ◌==◌}
use Rattle.laws.specs.Lists.{keep, every}
use Rattle.laws.specs.Words.{part}
use Rattle.laws.proofs.Tests.{by_test}
use Rattle.laws.proofs.Words.{part_length, part_at}
use borrow.Author.Count.{below_more}
use Rattle.laws.proofs.Indices.{every_entry, every_fails}
use Rattle.laws.proofs.Scans.{Scanned, scan_fails, scan_ends}
use Rattle.rules.specs.Netlist.{Netlist, Kind, name_of, pins_of}
use Rattle.rules.specs.Refusals.{must_be_logic, mark, is_none, mark_free}
use Rattle.roles.specs.Reading.{tables, Fits, cell_pins, kind_at}
use Rattle.roles.proofs.Fitting.{laid, entry_inside}
use Rattle.markers.specs.Marks.{mark_word}
use Rattle.unmarked.specs.Free.{Told, free_if, cell_free}

-- ---- a pin
none_word : (x : Option Bool) → (mark_word x == 0) ≡ is_none x
none_word None = refl
none_word (Some true) = refl
none_word (Some false) = refl

module _ (kinds starts list pins nets w : List ℕ) (k p m : ℕ) (b : Bool) (em : m ≡ get_or pins (5 * p + 1) 0) (eb : b ≡ must_be_logic (kind_at k) m) where
  abbrev n : Netlist
  n = tables kinds starts list pins nets

  tested : must_be_logic (kind_at k) (name_of n p) ≡ b
  tested = sym (eb ∙ ap (must_be_logic (kind_at k)) em)

  pub free_not_asked : b ≡ false → not b ≡ free_if (tables kinds starts list pins nets) (kind_at k) p
  unfolding free_if
  free_not_asked t = rw (tested ∙ t, t)

  pub free_by_word : b ≡ true → Told (tables kinds starts list pins nets) w → p < length list → (get_or w (length list + p) 0 == 0) ≡ free_if (tables kinds starts list pins nets) (kind_at k) p
  unfolding free_if
  free_by_word t h l = rw (tested ∙ t) (ap (λ (v : ℕ). v == 0) (h.marks p l) ∙ none_word (mark n p))

-- ---- a list
free_kept : (n : Netlist) (k : Kind) (l : List ℕ) → every (free_if n k) l ≡ every (λ p. is_none (mark n p)) (keep (λ p. must_be_logic k (name_of n p)) l)
unfolding free_if
free_kept n k [] = refl
free_kept n k (x ∷ l) = by_test (must_be_logic k (name_of n x))
    (λ t. rw t (ap (λ (b : Bool). is_none (mark n x) && b) (free_kept n k l)))
    (λ f. rw f (free_kept n k l))

-- the first i entries pass
pub record Passed (g : ℕ → Bool) (l : List ℕ) (i : ℕ) : Type 0 where
  pub each : (k : ℕ) → k < i → g (get_or l k 0) ≡ true

module _ (g : ℕ → Bool) (l : List ℕ) where
  pub passed_none : Passed g l 0
  passed_none = record { each = λ k h. absurd (omega arith) }

  module _ (i : ℕ) (b : Bool) (e : b ≡ g (get_or l i 0)) where
    pub passed_more : Passed g l i → b ≡ true → Passed g l (i + 1)
    passed_more s t = record { each = below_more (λ (k : ℕ). g (get_or l k 0) ≡ true) i s.each (sym e ∙ t) }

    fails_here : i < length l → b ≡ false → false ≡ every g l
    fails_here h f = sym (every_fails g 0 l i h (sym e ∙ f))

  passed_all : (i : ℕ) → Passed g l i → length l ≤ i → true ≡ every g l
  passed_all i s h = sym (every_entry g 0 l (λ k b. s.each k (omega (arith, b, h))))

-- ---- a cell
module _ (kinds starts list pins nets : List ℕ) (c : ℕ) (f : Fits (tables kinds starts list pins nets)) (lc : c < length kinds) where
  end_in : c + 1 < length starts
  end_in = omega (arith, f.starts_long)

  pub ends_behind : get_or starts c 0 ≤ get_or starts (c + 1) 0
  ends_behind = (laid kinds starts list pins nets f).rise c end_in

  pub ends_within : get_or starts (c + 1) 0 ≤ length list
  ends_within = (laid kinds starts list pins nets f).within (c + 1) end_in

  pub own_below : (i : ℕ) → i < length (cell_pins starts list c) → get_or (cell_pins starts list c) i 0 < length list
  unfolding part
  own_below i l =
      let q : length (cell_pins starts list c) ≡ get_or starts (c + 1) 0 - get_or starts c 0 = part_length list (get_or starts c 0) (get_or starts (c + 1) 0 - get_or starts c 0) (omega (arith, ends_behind, ends_within)) in
      let h : i < get_or starts (c + 1) 0 - get_or starts c 0 = omega (arith, q, l) in
      rw (part_at list (get_or starts c 0) (get_or starts (c + 1) 0 - get_or starts c 0) i h) (entry_inside kinds starts list pins nets f c i lc h)

-- the test of a cell is that of its pins
module _ (kinds starts list pins nets : List ℕ) (c : ℕ) where
  abbrev test : ℕ → Bool
  test = free_if (tables kinds starts list pins nets) (kind_at (get_or kinds c 0))

  same_test : every test (cell_pins starts list c) ≡ cell_free (tables kinds starts list pins nets) c
  unfolding cell_free
  same_test = free_kept (tables kinds starts list pins nets) (kind_at (get_or kinds c 0)) (pins_of (tables kinds starts list pins nets) c)

  pub cell_fails : (i : ℕ) (b : Bool) → b ≡ free_if (tables kinds starts list pins nets) (kind_at (get_or kinds c 0)) (get_or (cell_pins starts list c) i 0) → i < length (cell_pins starts list c) → b ≡ false
      → false ≡ cell_free (tables kinds starts list pins nets) c
  cell_fails i b e l f = fails_here test (cell_pins starts list c) i b e l f ∙ same_test

  pub cell_passes : (i : ℕ) → Passed (free_if (tables kinds starts list pins nets) (kind_at (get_or kinds c 0))) (cell_pins starts list c) i → length (cell_pins starts list c) ≤ i
      → true ≡ cell_free (tables kinds starts list pins nets) c
  cell_passes i s l = passed_all test (cell_pins starts list c) i s l ∙ same_test

-- ---- all cells
module _ (kinds starts list pins nets : List ℕ) (c : ℕ) where
  pub cells_fail : (r : Bool) → c < length kinds → r ≡ cell_free (tables kinds starts list pins nets) c → r ≡ false → false ≡ mark_free (tables kinds starts list pins nets)
  unfolding cell_free
  cells_fail r l e z = scan_fails (cell_free (tables kinds starts list pins nets)) (length kinds) c r l e z

  pub cells_end : Scanned (cell_free (tables kinds starts list pins nets)) (length kinds) c → length kinds ≤ c → true ≡ mark_free (tables kinds starts list pins nets)
  unfolding cell_free
  cells_end s l = scan_ends (cell_free (tables kinds starts list pins nets)) (length kinds) c s l
