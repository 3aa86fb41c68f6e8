-- The number of a call on a driver table: what each test makes of it, and what the number 0 says of the table.
use mathlib.Core.Path.{◌≡◌, sym, ◌∙◌}
use mathlib.Core.Bool.{Bool, true, false, ◌&&◌}
use mathlib.Core.List.{List}
use Prim.Native.Nat.{ℕ, ◌+◌, ◌*◌, ◌<◌, ◌≤◌}
use borrow.Author.Tests.{le-leb, lt-leb, eq-eqb, ne_eqb, eqb-true, leb-true}
use lib.ListN.{length}
use Rattle.std.specs.Prelude.{Ok, Err, ◌==◌}
use Rattle.laws.specs.Tests.{◌≤?◌, or_else, refuse}
use Rattle.laws.proofs.Tests.{and_l, and_r, not_refused, last_refused}
use Rattle.rules.specs.Refusals.{drivers_fit}
use Rattle.rules.specs.declared.Refusal.TheVariants.{Bounds, Lengths, Graph}
use Rattle.rules.specs.Answers.{done_of, drivers_number}

module _ (ws : List ℕ) (pins : ℕ) (counts lengths : Bool) where
  pub number_pins : 16777215 < pins → Err Bounds ≡ done_of (drivers_number pins ws counts lengths)
  number_pins l = sym (rw (lt-leb pins 16777215 l))

  module _ (few : pins ≤ 16777215) where
    pub number_counts : counts ≡ false → Err Bounds ≡ done_of (drivers_number pins ws counts lengths)
    number_counts f = sym (rw (le-leb pins 16777215 few, f))

    module _ (c : counts ≡ true) where
      pub number_long : (length ws ≡ 3 * (pins + 1) → ⊥) → Err Lengths ≡ done_of (drivers_number pins ws counts lengths)
      number_long n = sym (rw (le-leb pins 16777215 few, c, ne_eqb (length ws) (3 * (pins + 1)) n))

      module _ (e : length ws ≡ 3 * (pins + 1)) where
        pub number_lengths : lengths ≡ false → Err Lengths ≡ done_of (drivers_number pins ws counts lengths)
        number_lengths f = sym (rw (le-leb pins 16777215 few, c, eq-eqb (length ws) (3 * (pins + 1)) e, f))

        module _ (l : lengths ≡ true) (b : Bool) (eb : b ≡ drivers_fit ws pins) where
          pub number_drivers : b ≡ false → Err Graph ≡ done_of (drivers_number pins ws counts lengths)
          number_drivers f = sym (rw (le-leb pins 16777215 few, c, eq-eqb (length ws) (3 * (pins + 1)) e, l, sym eb ∙ f))

          pub number-none : b ≡ true → Ok tt ≡ done_of (drivers_number pins ws counts lengths)
          number-none t = sym (rw (le-leb pins 16777215 few, c, eq-eqb (length ws) (3 * (pins + 1)) e, l, sym eb ∙ t))

-- ---- what the number 0 says
pub record Sound (ws : List ℕ) (pins : ℕ) (counts lengths : Bool) : Type 0 where
  pub few : pins ≤ 16777215
  pub counts_fit : counts ≡ true
  pub long : length ws ≡ 3 * (pins + 1)
  pub lengths_fit_lem : lengths ≡ true
  pub fits : drivers_fit ws pins ≡ true

pub number_sound : (ws : List ℕ) (pins : ℕ) (counts lengths : Bool) → drivers_number pins ws counts lengths ≡ 0 → Sound ws pins counts lengths
number_sound ws pins counts lengths z =
    let a = not_refused 0 ((pins ≤? 16777215) && counts) (or_else (refuse 2 ((length ws == 3 * (pins + 1)) && lengths)) (refuse 12 (drivers_fit ws pins))) z in
    let b = not_refused 1 ((length ws == 3 * (pins + 1)) && lengths) (refuse 12 (drivers_fit ws pins)) a.1 in
    record {
      few = leb-true pins 16777215 (and_l (pins ≤? 16777215) counts a.0);
      counts_fit = and_r (pins ≤? 16777215) counts a.0;
      long = eqb-true (length ws) (3 * (pins + 1)) (and_l (length ws == 3 * (pins + 1)) lengths b.0);
      lengths_fit_lem = and_r (length ws == 3 * (pins + 1)) lengths b.0;
      fits = last_refused 11 (drivers_fit ws pins) b.1;
    }
