-- Required pins, by the constant table and by the rules.
use mathlib.Core.Path.{◌≡◌, refl, sym, ◌∙◌, ap}
use mathlib.Core.Bool.{Bool, true, false, not, ◌&&◌, ◌||◌}
use mathlib.Core.List.{List, [], ◌∷◌}
use Prim.Native.Nat.{ℕ, zero, suc, ◌/◌, ◌<◌}
use native.Mathlib.Omega.{arith}
use lib.ListN.{length, get_or}
use borrow.Author.Tests.{lt-ltb}
use Rattle.std.specs.Prelude.{◌==◌}
use Rattle.laws.specs.Tests.{◌<?◌}
use Rattle.laws.specs.Lists.{every, keep, upto}
use Rattle.laws.proofs.Tests.{by_test}
use Rattle.rules.specs.Netlist.{slots, kind_table, unfit}
use Rattle.kinds.specs.Slots.{kind_word}
use Rattle.pins.specs.Words.{pin_at}
use Rattle.lists.specs.Parts.{unnamed, must_by, musts_in}

-- ---- all names, as the rules have them
some_named : (pins : List ℕ) (name : ℕ) (l : List ℕ) → not (every (unnamed pins name) l) ≡ (0 <? length (keep (λ p. pin_at pins 1 p == name) l))
some_named pins name [] = refl
some_named pins name (p ∷ l) = by_test (pin_at pins 1 p == name)
    (λ t. rw t (sym (lt-ltb 0 (suc (length (keep (λ q. pin_at pins 1 q == name) l))) (omega arith))))
    (λ f. rw f (some_named pins name l))

abbrev asks : (ℕ → Bool) → ℕ → ℕ → Bool
asks there kind m = not (kind_word kind m / 256 == 1) || there m

-- the one kind whose pins the table has in another order
turned : (a b c : Bool) → (c && (a && (b && true))) ≡ (a && (b && (c && true)))
turned true true c = refl
turned true false true = refl
turned true false false = refl
turned false b true = refl
turned false b false = refl

table : (there : ℕ → Bool) (kind : ℕ) → kind < 13 → every (asks there kind) (upto 17) ≡ every (λ s. not s.must || there s.name) (slots (get_or kind_table kind unfit))
table there zero h = refl
table there (suc zero) h = refl
table there (suc (suc zero)) h = refl
table there (suc (suc (suc zero))) h = refl
table there (suc (suc (suc (suc zero)))) h = refl
table there (suc (suc (suc (suc (suc zero))))) h = refl
table there (suc (suc (suc (suc (suc (suc zero)))))) h = refl
table there (suc (suc (suc (suc (suc (suc (suc zero))))))) h = refl
table there (suc (suc (suc (suc (suc (suc (suc (suc zero)))))))) h = refl
table there (suc (suc (suc (suc (suc (suc (suc (suc (suc zero))))))))) h = refl
table there (suc (suc (suc (suc (suc (suc (suc (suc (suc (suc zero)))))))))) h = turned (there 8) (there 9) (there 3)
table there (suc (suc (suc (suc (suc (suc (suc (suc (suc (suc (suc zero))))))))))) h = refl
table there (suc (suc (suc (suc (suc (suc (suc (suc (suc (suc (suc (suc zero)))))))))))) h = refl
table there (suc (suc (suc (suc (suc (suc (suc (suc (suc (suc (suc (suc (suc k))))))))))))) h = absurd (omega arith)

every-same : (f g : ℕ → Bool) (l : List ℕ) → ((x : ℕ) → f x ≡ g x) → every f l ≡ every g l
every-same f g [] h = refl
every-same f g (x ∷ l) h = λ i. h x i && every-same f g l h i

module _ (pins l : List ℕ) (kind : ℕ) (k : kind < 13) where
  abbrev there : ℕ → Bool
  there m = 0 <? length (keep (λ p. pin_at pins 1 p == m) l)

  pub by_name_lem : every (must_by pins l kind) (upto 17) ≡ musts_in pins l kind
  by_name_lem =
      every-same (must_by pins l kind) (asks there kind) (upto 17)
      (λ m. ap (λ (b : Bool). not (kind_word kind m / 256 == 1) || b) (some_named pins m l)) ∙ table there kind k
