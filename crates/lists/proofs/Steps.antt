-- What the test of the starts says of them.
use mathlib.Core.Path.{◌≡◌, ap}
use mathlib.Core.Bool.{Bool, true, ◌&&◌}
use mathlib.Core.List.{List}
use Prim.Native.Nat.{ℕ, zero, suc, ◌+◌, ◌-◌, ◌<◌, ◌≤◌}
use native.Mathlib.Omega.{arith}
use lib.ListN.{length, get_or}
use borrow.Author.Tests.{leb-true, eqb-true}
use Rattle.std.specs.Prelude.{◌==◌}
use Rattle.laws.specs.Tests.{◌≤?◌}
use Rattle.laws.proofs.Tests.{and_l, and_r}
use Rattle.laws.proofs.Ranges.{of_upto}
use Rattle.lists.specs.Parts.{rising, laid, Starts}

-- ---- starts
-- each list begins where those before it have ended
pub upward : (starts : List ℕ) (cells : ℕ) → ((c : ℕ) → c < cells → get_or starts c 0 ≤ get_or starts (c + 1) 0) → (c d : ℕ) → c ≤ d → d ≤ cells
    → get_or starts c 0 ≤ get_or starts d 0
upward starts cells rise c d h l = let e : c + (d - c) ≡ d = omega arith in omega (arith, by (d - c) (omega arith), ap (λ (x : ℕ). get_or starts x 0) e)
  where
    by : (k : ℕ) → c + k ≤ cells → get_or starts c 0 ≤ get_or starts (c + k) 0
    by zero m = let e : c + 0 ≡ c = omega arith in omega (arith, ap (λ (x : ℕ). get_or starts x 0) e)
    by (suc k) m =
        let e : c + suc k ≡ c + k + 1 = omega arith in
        omega (arith, by k (omega arith), rise (c + k) (omega arith), ap (λ (x : ℕ). get_or starts x 0) e)

-- the test as facts
module _ (starts : List ℕ) (cells size : ℕ) (long : cells < length starts) (t : laid starts cells size ≡ true) where
  abbrev b1 : Bool
  b1 = get_or starts 0 0 == 0

  abbrev b2 : Bool
  b2 = get_or starts cells 0 == size

  first_is : get_or starts 0 0 ≡ 0
  first_is = eqb-true (get_or starts 0 0) 0 (and_l b1 b2 (and_l (b1 && b2) (rising starts cells) t))

  last_is : get_or starts cells 0 ≡ size
  last_is = eqb-true (get_or starts cells 0) size (and_r b1 b2 (and_l (b1 && b2) (rising starts cells) t))

  rise_at : (c : ℕ) → c < cells → get_or starts c 0 ≤ get_or starts (c + 1) 0
  rise_at c l = leb-true (get_or starts c 0) (get_or starts (c + 1) 0)
      (of_upto (λ k. get_or starts k 0 ≤? get_or starts (k + 1) 0) cells c (and_r (b1 && b2) (rising starts cells) t) l)

  pub starts_are : Starts starts cells size
  starts_are = record {
    long = long;
    first = first_is;
    last = last_is;
    rise = rise_at;
    within = λ c l. omega (arith, upward starts cells rise_at c cells l (omega arith), last_is);
  }
