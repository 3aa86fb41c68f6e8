-- The readings counted, gate by gate.
use mathlib.Core.Path.{◌≡◌, sym, ap, subst, ◌∙◌}
use mathlib.Core.List.{List, [], ◌∷◌}
use Prim.Native.Nat.{ℕ, suc, ◌+◌, ◌*◌, ◌/◌, ◌<◌, ◌≤◌}
use native.Mathlib.Numerals.{add-one}
use native.Mathlib.Omega.{arith}
use borrow.Author.Tests.{ltb-true, ltb-false}
use lib.ListN.{length, get_or, set, length-set}
use Rattle.std.specs.Prelude.{◌==◌}
use Rattle.laws.specs.Tests.{◌<?◌}
use Rattle.laws.specs.Lists.{count, over}
use Rattle.laws.specs.Words.{zeros}
use Rattle.laws.proofs.Tests.{by_test, one_le}
use Rattle.laws.proofs.Folds.{over-append}
use Rattle.laws.proofs.Words.{bump, bumps, bumps_length, zeros_at, word_past, get_d_set}
use Rattle.walk.specs.State.{tag_of, Operands}
use Rattle.fanouts.specs.Fans.{operands_of, readings, Countable}
use Rattle.fanouts.proofs.Readings.{gate-operands, no_operands, readings-none, readings-more, readings_few}

-- ---- one word
pub counted : (s : List ℕ) (l n : ℕ) → n ≡ get_or s (l / 2) 0 → set s (l / 2) (n + 1) ≡ bump s (l / 2)
counted s l n e = ap (set s (l / 2)) (add-one n ∙ ap suc e)

-- ---- the two of a gate, as the code reads them
module _ (ws s : List ℕ) (u t : ℕ) (c : Countable ws s u) (et : t ≡ get_or ws (3 * u) 0) where
  pub count_none : (t ≡ 1 → ⊥) → s ≡ over bump s (operands_of ws u)
  count_none n = ap (over bump s) (sym (no_operands ws u (λ e. n (et ∙ e))))

  module _ (g : t ≡ 1) (a b : ℕ) (ea : a ≡ get_or ws (3 * u + 1) 0) (eb : b ≡ get_or ws (3 * u + 2) 0) where
    tag : tag_of ws u ≡ 1
    tag = sym et ∙ g

    pub first_in : a / 2 < length s
    first_in = omega (arith, c.first_in tag, ap (λ (x : ℕ). x / 2) ea)

    pub first_low : get_or s (a / 2) 0 ≤ 4294967294
    first_low = omega (arith, c.few (a / 2))

    module _ (s₁ : List ℕ) (e₁ : s₁ ≡ bump s (a / 2)) where
      pub second_in : b / 2 < length s₁
      second_in = omega (arith, c.second_in tag, ap (λ (x : ℕ). x / 2) eb, ap length e₁, length-set s (a / 2) (suc (get_or s (a / 2) 0)))

      pub second_low : get_or s₁ (b / 2) 0 ≤ 4294967294
      second_low = subst (λ (w : List ℕ). get_or w (b / 2) 0 ≤ 4294967294) (sym e₁)
          (get_d_set s (a / 2) (b / 2) (suc (get_or s (a / 2) 0)) (λ (n : ℕ). n ≤ 4294967294) first_in
          (λ _. omega (arith, c.few (a / 2))) (λ _. omega (arith, c.few (b / 2))))

      pub count-both : (s₂ : List ℕ) → s₂ ≡ bump s₁ (b / 2) → s₂ ≡ over bump s (operands_of ws u)
      count-both s₂ e₂ =
          e₂ ∙ ap (λ (w : List ℕ). bump w (b / 2)) e₁
          ∙ (λ i. over bump s (ap (λ (x : ℕ). x / 2) ea i ∷ ap (λ (x : ℕ). x / 2) eb i ∷ []))
          ∙ ap (over bump s) (sym (gate-operands ws u tag))

-- ---- all gates below u
pub record Counting (ws s : List ℕ) (u : ℕ) (s' : List ℕ) : Type 0 where
  pub so_far : s' ≡ over bump s (readings ws u)

pub counts_begin : (ws s : List ℕ) → Counting ws s 0 s
counts_begin ws s = record { so_far = ap (over bump s) (sym (readings-none ws)) }

-- a count is at most how much was read
pub count_low : (ws s : List ℕ) (u p : ℕ) → s ≡ zeros (length s) → get_or (over bump s (readings ws u)) p 0 ≤ 2 * u
count_low ws s u p z = by_test (p <? length s)
    (λ t. omega (arith, bumps (readings ws u) s p (ltb-true p (length s) t), ap (λ (w : List ℕ). get_or w p 0) z, zeros_at (length s) p, count-length p (readings ws u), readings_few ws u))
    (λ f. omega (arith, word_past (over bump s (readings ws u)) p (omega (arith, bumps_length (readings ws u) s, ltb-false p (length s) f))))
  where
    count-length : (x : ℕ) (l : List ℕ) → count x l ≤ length l
    count-length x [] = omega arith
    count-length x (y ∷ l) = omega (arith, count-length x l, one_le (x == y))

module _ (ws s : List ℕ) (m u : ℕ) (s' : List ℕ) (fit : Operands ws m) (h : m ≤ length s) (few : m ≤ 16777216) (z : s ≡ zeros (length s)) (c : Counting ws s u s') (l : u < m) where
  long : length s' ≡ length s
  long = ap length c.so_far ∙ bumps_length (readings ws u) s

  pub countable : Countable ws s' u
  countable = record {
    first_in = λ t. omega (arith, fit.first_less u l t, long);
    second_in = λ t. omega (arith, fit.second_less u l t, long);
    few = λ p. omega (arith, ap (λ (w : List ℕ). get_or w p 0) c.so_far, count_low ws s u p z);
  }

  pub counts_go_on : (s'' : List ℕ) → s'' ≡ over bump s' (operands_of ws u) → Counting ws s (u + 1) s''
  counts_go_on s'' e = record {
    so_far = e ∙ ap (λ (w : List ℕ). over bump w (operands_of ws u)) c.so_far ∙ sym (over-append bump s (readings ws u) (operands_of ws u))
        ∙ ap (over bump s) (sym (readings-more ws u)) ∙ ap (λ (n : ℕ). over bump s (readings ws n)) (sym (add-one u));
  }

pub counts_end : (ws s : List ℕ) (m u : ℕ) (s' : List ℕ) → Counting ws s u s' → u ≤ m → m ≤ u → s' ≡ over bump s (readings ws m)
counts_end ws s m u s' c a b = let e : u ≡ m = omega arith in c.so_far ∙ ap (λ (n : ℕ). over bump s (readings ws n)) e
