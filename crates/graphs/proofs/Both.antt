-- The two comparisons in the code's shape.
use mathlib.Core.Path.{◌≡◌, refl}
use mathlib.Core.Bool.{Bool, true, false}
use mathlib.Core.List.{List}
use Prim.Native.Nat.{ℕ, ◌+◌}
use Rattle.rules.specs.Refusals.{drivers_fit, is_dff, is_ram}
use Rattle.rules.specs.Tables.{drivers_in}
use Rattle.marks.specs.Marking.{MarkedAll}
use Rattle.graphs.specs.Parts.{dff_pins_in, ram_pins_in, marks_match, pins_match, Compared}
use Rattle.graphs.proofs.Matching.{dff_told, ram_told, unmarked, compared}

module _ (ds rows : List ℕ) (n pins base : ℕ) (w w' : List ℕ) (s : Bool) (fit : drivers_fit ds pins ≡ true) where
  pub dffs_unmarked : MarkedAll (dff_pins_in rows n) w base (pins + 1) w' s → s ≡ false
      → Compared (pins_match is_dff (dff_pins_in rows n) (drivers_in ds pins)) w base (pins + 1) w' false
  dffs_unmarked = unmarked is_dff 4 dff_told ds pins (pins + 1) refl fit (dff_pins_in rows n) w base w' s

  pub dffs_compared : (r : Bool) → MarkedAll (dff_pins_in rows n) w base (pins + 1) w' s → s ≡ true → r ≡ marks_match ds w' base (pins + 1) 4
      → Compared (pins_match is_dff (dff_pins_in rows n) (drivers_in ds pins)) w base (pins + 1) w' r
  dffs_compared = compared is_dff 4 dff_told ds pins (pins + 1) refl fit (dff_pins_in rows n) w base w' s

  pub rams_unmarked : MarkedAll (ram_pins_in rows n) w base (pins + 1) w' s → s ≡ false
      → Compared (pins_match is_ram (ram_pins_in rows n) (drivers_in ds pins)) w base (pins + 1) w' false
  rams_unmarked = unmarked is_ram 5 ram_told ds pins (pins + 1) refl fit (ram_pins_in rows n) w base w' s

  pub rams_compared : (r : Bool) → MarkedAll (ram_pins_in rows n) w base (pins + 1) w' s → s ≡ true → r ≡ marks_match ds w' base (pins + 1) 5
      → Compared (pins_match is_ram (ram_pins_in rows n) (drivers_in ds pins)) w base (pins + 1) w' r
  rams_compared = compared is_ram 5 ram_told ds pins (pins + 1) refl fit (ram_pins_in rows n) w base w' s
