-- Parts of words that a change elsewhere leaves, and the part that it changes.
use mathlib.Core.Path.{◌≡◌, refl, sym, ap, ◌∙◌}
use mathlib.Core.List.{List}
use Prim.Native.Nat.{ℕ, ◌+◌, ◌<◌, ◌≤◌}
use native.Mathlib.Omega.{arith}
use lib.ListN.{length, take, drop, set, length-set}
use lib.Seq.{get_or-set_other, drop-set-add, take-set-lt, take-take}
use Rattle.laws.specs.Words.{part}
use Rattle.laws.proofs.Words.{part_same}
use Rattle.members.specs.Set.{Within}

-- a store inside a part, and a part's beginning
pub part-set : (w : List ℕ) (a n i v : ℕ) → i < n → part (set w (a + i) v) a n ≡ set (part w a n) i v
unfolding part
part-set w a n i v l = ap (take n) (drop-set-add a w i v) ∙ take-set-lt n (drop a w) i v l

pub part_shorter : (w : List ℕ) (a k n : ℕ) → k ≤ n → part w a k ≡ take k (part w a n)
unfolding part
part_shorter w a k n l = sym (take-take k n (drop a w) l)

-- ---- changes one after the other
pub within_none : (a b : ℕ) (w : List ℕ) → Within a b w w
within_none a b w = record { long = refl; before = λ j l. refl; after = λ j l. refl }

pub within_on : (a b : ℕ) (u v w : List ℕ) → Within a b u v → Within a b v w → Within a b u w
within_on a b u v w p q = record {
  long = q.long ∙ p.long;
  before = λ j l. q.before j l ∙ p.before j l;
  after = λ j l. q.after j l ∙ p.after j l;
}

pub within-set : (a b : ℕ) (u w : List ℕ) (i v : ℕ) → a ≤ i → i < b → Within a b u w → Within a b u (set w i v)
within-set a b u w i v l h p = record {
  long = length-set w i v ∙ p.long;
  before = λ j k. get_or-set_other w i j v 0 (omega arith) ∙ p.before j k;
  after = λ j k. get_or-set_other w i j v 0 (omega arith) ∙ p.after j k;
}

pub within_more : (a b a' b' : ℕ) (u w : List ℕ) → a' ≤ a → b ≤ b' → Within a b u w → Within a' b' u w
within_more a b a' b' u w l h p = record { long = p.long; before = λ j k. p.before j (omega arith); after = λ j k. p.after j (omega arith) }

-- parts before and behind are as they were
pub part_left : (a b : ℕ) (u w : List ℕ) (i n : ℕ) → Within a b u w → i + n ≤ a → i + n ≤ length u → part w i n ≡ part u i n
part_left a b u w i n p l h = part_same w u i n (omega (arith, p.long)) h (λ j lj uj. p.before j (omega arith))

pub part_right : (a b : ℕ) (u w : List ℕ) (i n : ℕ) → Within a b u w → b ≤ i → i + n ≤ length u → part w i n ≡ part u i n
part_right a b u w i n p l h = part_same w u i n (omega (arith, p.long)) h (λ j lj uj. p.after j (omega arith))
