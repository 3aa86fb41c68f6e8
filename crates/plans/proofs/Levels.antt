-- The levels: within their bounds, and rising.
use mathlib.Core.Path.{◌≡◌, refl, sym, ap, ◌∙◌}
use mathlib.Core.Bool.{Bool, true, false, ◌&&◌}
use mathlib.Core.List.{List, [], ◌∷◌}
use Prim.Native.Nat.{ℕ, suc, ◌+◌, ◌-◌, ◌<◌, ◌≤◌}
use native.Mathlib.Omega.{arith}
use lib.ListN.{length, get_or, drop}
use lib.Seq.{drop-cons}
use borrow.Author.Tests.{leb-true, leb-false, le-ltb, lt-ltb}
use Rattle.laws.specs.Tests.{◌<?◌, ◌≤?◌}
use Rattle.laws.specs.Lists.{every}
use Rattle.laws.proofs.Tests.{by_test}
use Rattle.rules.specs.Refusals.{below, rising}

pub below_is : (l : List ℕ) → below 16777216 l ≡ every (λ b. b ≤? 16777215) l
below_is [] = refl
below_is (x ∷ l) = λ i. same x i && below_is l i
  where
    same : (y : ℕ) → (y <? 16777216) ≡ (y ≤? 16777215)
    same y = by_test (y ≤? 16777215)
        (λ t. lt-ltb y 16777216 (omega (arith, leb-true y 16777215 t)) ∙ sym t)
        (λ f. le-ltb y 16777216 (omega (arith, leb-false y 16777215 f)) ∙ sym f)

-- ---- rising: those before i do
pub record RisingTo (splits : List ℕ) (i : ℕ) : Type 0 where
  pub low : 1 ≤ i
  pub so_far : rising splits ≡ rising (drop (i - 1) splits)

pub rise_begins : (splits : List ℕ) → RisingTo splits 1
rise_begins splits = record { low = omega arith; so_far = refl }

module _ (splits : List ℕ) (i : ℕ) (s : RisingTo splits i) where
  module _ (l : i < length splits) (a b : ℕ) (ea : a ≡ get_or splits (i - 1) 0) (eb : b ≡ get_or splits i 0) where
    two : drop (i - 1) splits ≡ get_or splits (i - 1) 0 ∷ get_or splits i 0 ∷ drop (suc i) splits
    two = let q : suc (i - 1) ≡ i = omega (arith, s.low) in
        drop-cons splits (i - 1) 0 (omega arith) ∙ ap (λ (k : ℕ). get_or splits (i - 1) 0 ∷ drop k splits) q ∙ ap (λ (x : List ℕ). get_or splits (i - 1) 0 ∷ x) (drop-cons splits i 0 l)

    pub rise_fails : b ≤ a → false ≡ rising splits
    rise_fails h = sym (s.so_far ∙ ap rising two ∙ ap (λ (x : Bool). x && rising (get_or splits i 0 ∷ drop (suc i) splits)) (le-ltb (get_or splits (i - 1) 0) (get_or splits i 0) (omega arith)))

    pub rise_goes_on : a < b → RisingTo splits (i + 1)
    rise_goes_on h = let q : i + 1 - 1 ≡ i = omega arith in record {
      low = omega arith;
      so_far = s.so_far ∙ ap rising two ∙ ap (λ (x : Bool). x && rising (get_or splits i 0 ∷ drop (suc i) splits)) (lt-ltb (get_or splits (i - 1) 0) (get_or splits i 0) (omega arith))
          ∙ ap rising (sym (drop-cons splits i 0 l)) ∙ ap (λ (k : ℕ). rising (drop k splits)) (sym q);
    }

  short_rises : (x : List ℕ) → length x ≤ 1 → rising x ≡ true
  short_rises [] h = refl
  short_rises (a ∷ []) h = refl
  short_rises (a ∷ b ∷ x) h = absurd (omega arith)

  pub rise_ends : length splits ≤ i → true ≡ rising splits
  rise_ends l = sym (s.so_far ∙ short_rises (drop (i - 1) splits) (omega (arith, lib.ListN.length-drop (i - 1) splits)))
