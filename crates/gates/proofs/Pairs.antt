-- The words of a row are a pair exactly where its driver is.
use mathlib.Core.Path.{◌≡◌, sym, ◌∙◌}
use mathlib.Core.Bool.{Bool, false, ◌&&◌}
use mathlib.Core.List.{List, [], ◌∷◌}
use Prim.Native.Nat.{ℕ, ◌+◌, ◌*◌, ◌≤◌, ◌<◌}
use native.Mathlib.Omega.{arith}
use lib.ListN.{length, get_or}
use borrow.Author.Tests.{eq-eqb, ne_eqb, eqb-true, eqb-false}
use Rattle.std.specs.Prelude.{◌==◌}
use Rattle.laws.proofs.Tests.{by_test}
use Rattle.rules.specs.declared.Driver.{Driver}
use Rattle.rules.specs.declared.Driver.TheVariants.{And, Port, Flag, Dff, Ram, Constant}
use Rattle.rules.specs.Graph.{driver_at, first_pin, is_pair}
use Rattle.rules.specs.Tables.{decode_at}
use Rattle.drivers.specs.Written.{Holds}
use Rattle.drivers.proofs.Said.{Words, said}
use Rattle.gates.specs.Step.{is_pair_at}

-- ---- the three tests of a row, in the code's order
module _ (ws : List ℕ) (p lo hi : ℕ) where
  pub tag_differs : (get_or ws (3 * p) 0 ≡ 1 → ⊥) → false ≡ is_pair_at ws p lo hi
  tag_differs n = rw (ne_eqb (get_or ws (3 * p) 0) 1 n)

  pub first_differs : get_or ws (3 * p) 0 ≡ 1 → (get_or ws (3 * p + 1) 0 ≡ lo → ⊥) → false ≡ is_pair_at ws p lo hi
  first_differs e n = rw (eq-eqb (get_or ws (3 * p) 0) 1 e, ne_eqb (get_or ws (3 * p + 1) 0) lo n)

  pub second_tells : get_or ws (3 * p) 0 ≡ 1 → get_or ws (3 * p + 1) 0 ≡ lo → (get_or ws (3 * p + 2) 0 == hi) ≡ is_pair_at ws p lo hi
  second_tells e f = rw (eq-eqb (get_or ws (3 * p) 0) 1 e, eq-eqb (get_or ws (3 * p + 1) 0) lo f)

-- ---- the words of a row are a pair exactly where its driver is
eqb_sym : (x y : ℕ) → (x == y) ≡ (y == x)
eqb_sym x y = by_test (x == y)
    (λ t. t ∙ sym (eq-eqb y x (sym (eqb-true x y t))))
    (λ f. f ∙ sym (ne_eqb y x (λ e. eqb-false x y f (sym e))))

not_gate : (t a b lo hi k : ℕ) → t ≡ k → (k ≡ 1 → ⊥) → ((t == 1) && (a == lo) && (b == hi)) ≡ false
not_gate t a b lo hi k e n = rw (ne_eqb t 1 (λ z. n (sym e ∙ z)))

pair_words : (t a b lo hi : ℕ) (d : Driver) → Words t a b d → ((t == 1) && (a == lo) && (b == hi)) ≡ is_pair lo hi d
pair_words t a b lo hi (And x y) w =
    rw (eq-eqb t 1 w.tag, w.first, w.second) (λ i. eqb_sym x.word lo i && eqb_sym y.word hi i)
pair_words t a b lo hi (Port q) w = not_gate t a b lo hi 2 w.tag (λ e. omega arith)
pair_words t a b lo hi (Flag q e) w = not_gate t a b lo hi 3 w.tag (λ z. omega arith)
pair_words t a b lo hi (Dff c) w = not_gate t a b lo hi 4 w.tag (λ e. omega arith)
pair_words t a b lo hi (Ram c) w = not_gate t a b lo hi 5 w.tag (λ e. omega arith)
pair_words t a b lo hi Constant w = not_gate t a b lo hi 0 w.tag (λ e. omega arith)

pub row_pair : (ws : List ℕ) (ds : List Driver) (p lo hi : ℕ) → Holds ws ds → p < length ds → is_pair_at ws p lo hi ≡ is_pair lo hi (driver_at ds p)
unfolding decode_at
row_pair ws ds p lo hi h l =
    pair_words (get_or ws (3 * p) 0) (get_or ws (3 * p + 1) 0) (get_or ws (3 * p + 2) 0) lo hi (driver_at ds p)
    (said (get_or ws (3 * p) 0) (get_or ws (3 * p + 1) 0) (get_or ws (3 * p + 2) 0) (driver_at ds p) (h.row p l))

pub first_le : (t : Driver → Bool) (ds : List Driver) → first_pin t ds ≤ length ds
first_le t [] = omega arith
first_le t (d ∷ ds) = by_test (t d) (λ y. rw y (omega arith)) (λ n. rw n (omega (arith, first_le t ds)))
