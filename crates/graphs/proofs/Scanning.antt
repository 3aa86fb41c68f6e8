-- The tests of single words, in the code's shape.
use mathlib.Core.Path.{◌≡◌, sym, ap, ◌∙◌}
use mathlib.Core.Bool.{true, false}
use mathlib.Core.List.{List}
use Prim.Native.Nat.{ℕ, ◌+◌, ◌≤◌, ◌<◌}
use lib.ListN.{get_or}
use borrow.Author.Tests.{lt-leb, le-leb}
use Rattle.laws.specs.Tests.{◌≤?◌}
use Rattle.rules.specs.Graph.{pin_of}

-- a literal whose pin is, or is not, past the count
module _ (ws : List ℕ) (at i pins p : ℕ) (e : p ≡ pin_of (get_or ws (at + i) 0)) where
  pub pin_past : pins < p → (pin_of (get_or ws (at + i) 0) ≤? pins) ≡ false
  pin_past l = ap (λ (x : ℕ). x ≤? pins) (sym e) ∙ lt-leb p pins l

  pub pin_within : p ≤ pins → (pin_of (get_or ws (at + i) 0) ≤? pins) ≡ true
  pin_within l = ap (λ (x : ℕ). x ≤? pins) (sym e) ∙ le-leb p pins l
