-- A word of the table allows exactly the pins that the rules allow.
use mathlib.Core.Path.{◌≡◌, refl, sym, ap, ◌∙◌}
use mathlib.Core.Bool.{Bool, true, false, not, ◌&&◌, ◌||◌}
use mathlib.Core.List.{List, [], ◌∷◌}
use Prim.Native.Nat.{ℕ, ◌+◌, ◌*◌, ◌/◌, ◌%◌, ◌≤◌, ◌<◌}
use native.Mathlib.Omega.{arith}
use lib.ListN.{get_or}
use borrow.Author.Tests.{ne_eqb, eqb-true, leb-true}
use Rattle.std.specs.Prelude.{◌==◌}
use Rattle.laws.specs.Tests.{◌<?◌, ◌≤?◌, one, same}
use Rattle.laws.specs.Lists.{any, every, upto}
use Rattle.laws.proofs.Tests.{by_test, and_l, and_r, one_le}
use Rattle.laws.proofs.Ranges.{of_upto}
use Rattle.rules.specs.Netlist.{Slot, slots, kind_table, unfit}
use Rattle.kinds.specs.Slots.{slots_named, most_bits, word_of, kind_word, slot_allows}

-- ---- pins with a name
abbrev fits : Bool → ℕ → ℕ → Slot → Bool
fits out m bit s = same out s.out && (m == s.name) && (bit <? s.bits)

any_same : {A : Type 0} (f g : A → Bool) (l : List A) → ((x : A) → f x ≡ g x) → any f l ≡ any g l
any_same f g [] h = refl
any_same f g (x ∷ l) h = λ i. h x i || any_same f g l h i

and-true : (b : Bool) → (b && true) ≡ b
and-true true = refl
and-true false = refl

and_none : (b : Bool) → (b && false) ≡ false
and_none true = refl
and_none false = refl

-- only pins with the name count
by_name_lem : (out : Bool) (m bit : ℕ) (ss : List Slot) → any (fits out m bit) ss ≡ any (λ s. same out s.out && (bit <? s.bits)) (slots_named m ss)
by_name_lem out m bit [] = refl
by_name_lem out m bit (s ∷ ss) = by_test (m == s.name)
    (λ t. rw (t, and-true (same out s.out)) (ap (λ (b : Bool). (same out s.out && (bit <? s.bits)) || b) (by_name_lem out m bit ss)))
    (λ f. rw (f, and_none (same out s.out)) (by_name_lem out m bit ss))

-- where they all have as many bits, the bit can be tested once
any_and : (b : Bool) (f : Slot → Bool) (ss : List Slot) → any (λ s. f s && b) ss ≡ (b && any f ss)
any_and b f [] = sym (and_none b)
any_and true f (s ∷ ss) = λ i. and-true (f s) i || any_and true f ss i
any_and false f (s ∷ ss) = rw (and_none (f s)) (any_and false f ss)

abbrev uniform : List Slot → Bool
uniform ss = every (λ s. s.bits == most_bits ss) ss

at_bits : (out : Bool) (bit k : ℕ) (ss : List Slot) → every (λ s. s.bits == k) ss ≡ true
    → any (λ s. same out s.out && (bit <? s.bits)) ss ≡ any (λ s. same out s.out && (bit <? k)) ss
at_bits out bit k [] h = refl
at_bits out bit k (s ∷ ss) h =
    let e : s.bits ≡ k = eqb-true s.bits k (and_l (s.bits == k) (every (λ x. x.bits == k) ss) h) in
    λ i. (same out s.out && (bit <? e i)) || at_bits out bit k ss (and_r (s.bits == k) (every (λ x. x.bits == k) ss) h) i

-- ---- the rule for all kinds and names, computed
sound : ℕ → Bool
sound i = uniform (slots_named (i % 32) (slots (get_or kind_table (i / 32) unfit))) && (most_bits (slots_named (i % 32) (slots (get_or kind_table (i / 32) unfit))) ≤? 32)

all_sound : every sound (upto 416) ≡ true
unfolding sound
all_sound = refl

sound_at : (k m : ℕ) → k < 13 → m < 32
    → (uniform (slots_named m (slots (get_or kind_table k unfit))) && (most_bits (slots_named m (slots (get_or kind_table k unfit))) ≤? 32)) ≡ true
unfolding sound
sound_at k m hk hm = (λ i. uniform (slots_named (column i) (slots (get_or kind_table (row i) unfit))) && (most_bits (slots_named (column i) (slots (get_or kind_table (row i) unfit))) ≤? 32))
    ∙ of_upto sound 416 (32 * k + m) all_sound (omega arith)
  where
    row : k ≡ (32 * k + m) / 32
    row = omega arith

    column : m ≡ (32 * k + m) % 32
    column = omega arith

-- ---- the parts of a word
module _ (ss : List Slot) (few : most_bits ss ≤ 32) where
  bits_part : word_of ss % 64 ≡ most_bits ss
  bits_part = omega (arith, few, one_le (any (λ s. not s.out) ss), one_le (any (λ s. s.out) ss), one_le (any (λ s. s.must) ss))

  in_part : word_of ss / 64 % 2 ≡ one (any (λ s. not s.out) ss)
  in_part = omega (arith, few, one_le (any (λ s. not s.out) ss), one_le (any (λ s. s.out) ss), one_le (any (λ s. s.must) ss))

  out_part : word_of ss / 128 % 2 ≡ one (any (λ s. s.out) ss)
  out_part = omega (arith, few, one_le (any (λ s. not s.out) ss), one_le (any (λ s. s.out) ss), one_le (any (λ s. s.must) ss))

  pub must_part : word_of ss / 256 ≡ one (any (λ s. s.must) ss)
  must_part = omega (arith, few, one_le (any (λ s. not s.out) ss), one_le (any (λ s. s.out) ss), one_le (any (λ s. s.must) ss))

is_one : (b : Bool) → (one b == 1) ≡ b
is_one true = refl
is_one false = refl

same_not : (b : Bool) → same false b ≡ not b
same_not true = refl
same_not false = refl

allows : (ss : List Slot) (bit d : ℕ) → most_bits ss ≤ 32 → (out : Bool) → (d == 1) ≡ out
    → slot_allows (word_of ss) bit d ≡ ((bit <? most_bits ss) && any (λ s. same out s.out) ss)
allows ss bit d few true e = rw (e, bits_part ss few, out_part ss few, is_one (any (λ s. s.out) ss))
allows ss bit d few false e =
    rw (e, bits_part ss few, in_part ss few, is_one (any (λ s. not s.out) ss))
    (ap (λ (b : Bool). (bit <? most_bits ss) && b) (any_same (λ s. not s.out) (λ s. same false s.out) ss (λ s. sym (same_not s.out))))

-- ---- what the table says of a pin is what the rules say
module _ (k m bit d : ℕ) (hk : k < 13) (hm : m < 31) where
  ss : List Slot
  ss = slots_named m (slots (get_or kind_table k unfit))

  pub word_slots : kind_word k m ≡ word_of (slots_named m (slots (get_or kind_table k unfit)))
  word_slots = rw (ne_eqb m 31 (λ e. omega (arith, e)))

  few : most_bits (slots_named m (slots (get_or kind_table k unfit))) ≤ 32
  few = leb-true (most_bits (slots_named m (slots (get_or kind_table k unfit)))) 32
      (and_r (uniform (slots_named m (slots (get_or kind_table k unfit)))) (most_bits (slots_named m (slots (get_or kind_table k unfit))) ≤? 32) (sound_at k m hk (omega arith)))

  pub allowed : slot_allows (kind_word k m) bit d ≡ any (fits (d == 1) m bit) (slots (get_or kind_table k unfit))
  allowed =
      ap (λ (w : ℕ). slot_allows w bit d) word_slots
      ∙ allows (slots_named m (slots (get_or kind_table k unfit))) bit d few (d == 1) refl
      ∙ sym (any_and (bit <? most_bits (slots_named m (slots (get_or kind_table k unfit)))) (λ s. same (d == 1) s.out) (slots_named m (slots (get_or kind_table k unfit))))
      ∙ sym (at_bits (d == 1) bit (most_bits (slots_named m (slots (get_or kind_table k unfit)))) (slots_named m (slots (get_or kind_table k unfit)))
      (and_l (uniform (slots_named m (slots (get_or kind_table k unfit)))) (most_bits (slots_named m (slots (get_or kind_table k unfit))) ≤? 32) (sound_at k m hk (omega arith))))
      ∙ sym (by_name_lem (d == 1) m bit (slots (get_or kind_table k unfit)))

  pub must_word : kind_word k m / 256 ≡ one (any (λ s. s.must) (slots_named m (slots (get_or kind_table k unfit))))
  must_word = ap (λ (w : ℕ). w / 256) word_slots ∙ must_part (slots_named m (slots (get_or kind_table k unfit))) few
