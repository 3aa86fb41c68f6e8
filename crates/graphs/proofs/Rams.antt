-- The read-data pins, in the code's shape: 0 is left out.
use mathlib.Core.Path.{◌≡◌, sym, subst}
use mathlib.Core.Bool.{Bool, true, false}
use mathlib.Core.List.{List}
use Prim.Native.Nat.{ℕ, ◌+◌, ◌*◌, ◌≤◌, ◌<◌}
use native.Mathlib.Omega.{arith}
use borrow.Author.Tests.{lt-ltb, le-ltb}
use Rattle.laws.specs.Tests.{◌<?◌}
use Rattle.marks.specs.Marking.{MarkedAll}
use Rattle.marks.proofs.Picking.{Picking, pick_skips, pick_goes_on, pick_fails, pick_ends}
use Rattle.laws.proofs.Tests.{true≢false}
use Rattle.graphs.specs.Parts.{read_word, ram_pins_in, Presented, absent, there}

abbrev pub present : ℕ → Bool
present p = 0 <? p

module _ (rams : List ℕ) (n : ℕ) (w₀ w : List ℕ) (base limit i : ℕ) (s : Picking (read_word rams) present (32 * n) w₀ w base limit i) where
  module _ (w' : List ℕ) (r : Bool) (l : i < 32 * n) where
    is_there : (read_word rams i ≡ 0 → ⊥) → present (read_word rams i) ≡ true
    is_there nz = lt-ltb 0 (read_word rams i) (omega (arith, nz))

    pub rams_go_on : Presented w base limit (read_word rams i) w' r → r ≡ true → Picking (read_word rams) present (32 * n) w₀ w' base limit (i + 1)
    rams_go_on (absent z e t) y = subst (λ (x : List ℕ). Picking (read_word rams) present (32 * n) w₀ x base limit (i + 1)) (sym e)
        (pick_skips (read_word rams) present (32 * n) w₀ w base limit i s l (le-ltb 0 (read_word rams i) (omega (arith, z))))
    rams_go_on (there nz m) y = pick_goes_on (read_word rams) present (32 * n) w₀ w base limit i s l (is_there nz) w' r m y

    pub rams_fail : Presented w base limit (read_word rams i) w' r → r ≡ false → MarkedAll (ram_pins_in rams n) w₀ base limit w' false
    rams_fail (absent z e t) f = true≢false r t f
    rams_fail (there nz m) f = pick_fails (read_word rams) present (32 * n) w₀ w base limit i s l (is_there nz) w' r m f

  pub rams_end : 32 * n ≤ i → MarkedAll (ram_pins_in rams n) w₀ base limit w true
  rams_end l = pick_ends (read_word rams) present (32 * n) w₀ w base limit i s l
