-- The refusals that show without work words: what each test makes of the number, and what the number 0 says of the tables.
use mathlib.Core.Path.{◌≡◌, refl, sym, ap, ◌∙◌}
use mathlib.Core.Bool.{Bool, true, false, ◌&&◌}
use mathlib.Core.List.{List}
use Prim.Native.Nat.{ℕ, zero, suc, ◌+◌, ◌*◌, ◌≤◌}
use native.Mathlib.Omega.{arith}
use borrow.Author.Tests.{leb-true}
use lib.ListN.{length}
use Rattle.std.specs.Prelude.{Ok, Err, if◌then◌else◌}
use Rattle.laws.specs.Tests.{◌≤?◌, or_else, refuse}
use Rattle.laws.specs.Words.{AllBelow}
use Rattle.laws.proofs.Tests.{and_l, and_r, or_zero, last_refused}
use Rattle.laws.proofs.Words.{below_tested}
use Rattle.rules.specs.declared.Refusal.{Refusal}
use Rattle.rules.specs.declared.Refusal.TheVariants.{Index}
use Rattle.rules.specs.Bounds.{stage_work}
use Rattle.rules.specs.Refusals.{drivers_fit, below, no_repeat}
use Rattle.rules.specs.Stages.{traversal}
use Rattle.rules.specs.Answers.{done_of, drivers_number, drivers_graph, traverse_number}
use Rattle.walk.proofs.Answered.{or_refused, or_accepted}
use Rattle.walk.proofs.Numbers.{number_sound}
use Rattle.traverse.specs.Answer.{lists_fit, indexes_fit, early_number}

-- ---- what the driver table, the lists and the lengths call for, and the indexes
module _ (ws : List ℕ) (pins : ℕ) (given : Bool) (roots handed : List ℕ) (room work : ℕ) (a : Bool) (ea : a ≡ lists_fit (length roots) (length handed) room) where
  first_is : drivers_number pins ws a (12 * pins + 64 ≤? work) ≡ drivers_number pins ws (lists_fit (length roots) (length handed) room) (stage_work pins 0 ≤? work)
  first_is = let e : 12 * pins + 64 ≡ stage_work pins 0 = omega arith in λ i. drivers_number pins ws (ea i) (e i ≤? work)

  abbrev first_number : ℕ
  first_number = drivers_number pins ws (lists_fit (length roots) (length handed) room) (stage_work pins 0 ≤? work)

  abbrev ranges : ℕ
  ranges = refuse 15 (indexes_fit (pins + 1) given roots handed)

  pub early_first : (e : Refusal) → Err e ≡ done_of (drivers_number pins ws a (12 * pins + 64 ≤? work)) → Err e ≡ done_of (early_number ws pins given roots handed room work)
  unfolding early_number
  early_first e q = or_refused first_number ranges tt e (q ∙ ap done_of first_is)

  module _ (u : Unit {0}) (y : Ok u ≡ done_of (drivers_number pins ws a (12 * pins + 64 ≤? work))) (i : Bool) (ei : i ≡ indexes_fit (pins + 1) given roots handed) where
    pub early_15 : i ≡ false → Err Index ≡ done_of (early_number ws pins given roots handed room work)
    unfolding early_number
    early_15 f = or_accepted first_number ranges tt (Err Index) u (y ∙ ap done_of first_is) (sym (rw (sym ei ∙ f)))

    pub early_none : i ≡ true → Ok tt ≡ done_of (early_number ws pins given roots handed room work)
    unfolding early_number
    early_none t = or_accepted first_number ranges tt (Ok tt) u (y ∙ ap done_of first_is) (sym (rw (sym ei ∙ t)))

-- ---- what the number 0 says
pub record Sound (ws : List ℕ) (pins : ℕ) (given : Bool) (roots handed : List ℕ) (work : ℕ) : Type 0 where
  pub few : pins ≤ 16777215
  pub drivers_long : length ws ≡ 3 * (pins + 1)
  pub work_long : 12 * pins + 64 ≤ work
  pub fits : drivers_fit ws pins ≡ true
  pub roots_below : given ≡ true → AllBelow (pins + 1) roots
  pub handed_below : AllBelow (pins + 1) handed

module _ (ws : List ℕ) (pins : ℕ) (given : Bool) (roots handed : List ℕ) (room work : ℕ) where
  abbrev ranged : Bool
  ranged = indexes_fit (pins + 1) given roots handed

  abbrev last : ℕ
  last = refuse 11 (length (traversal (drivers_graph pins ws) given roots handed) ≤? room)

  pub early_sound : early_number ws pins given roots handed room work ≡ 0 → Sound ws pins given roots handed work
  unfolding early_number
  early_sound z =
      let lists : Bool = lists_fit (length roots) (length handed) room in
      let n = or_zero (drivers_number pins ws lists (stage_work pins 0 ≤? work)) (refuse 15 ranged) z in
      let d = number_sound ws pins lists (stage_work pins 0 ≤? work) n.0 in
      let i = last_refused 14 ranged n.1 in
      record {
        few = d.few;
        drivers_long = d.long;
        work_long = omega (arith, leb-true (stage_work pins 0) work d.lengths_fit_lem);
        fits = d.fits;
        roots_below = λ g. below_tested (pins + 1) roots
            (sym (ap (λ (t : Bool). if t then below (pins + 1) roots else true) g) ∙ and_l (if given then below (pins + 1) roots else true) (below (pins + 1) handed) i);
        handed_below = below_tested (pins + 1) handed (and_r (if given then below (pins + 1) roots else true) (below (pins + 1) handed) i);
      }

  -- ---- and how it goes on: the whole number is the early one, else 15 where a handed-on pin repeats, else 11 where the room is too small
  set_and_early : (given-fits in-range once : Bool) → (given-fits && (in-range && once)) ≡ ((given-fits && in-range) && once)
  set_and_early true r o = refl
  set_and_early false r o = refl

  refuse_and : (x o : Bool) (r : ℕ) → or_else (refuse 15 (x && o)) r ≡ or_else (refuse 15 x) (or_else (refuse 15 o) r)
  refuse_and true o r = refl
  refuse_and false o r = refl

  or_chain : (x y r : ℕ) → or_else x (or_else y r) ≡ or_else (or_else x y) r
  or_chain zero y r = refl
  or_chain (suc x) y r = refl

  pub number_is : traverse_number pins ws given roots handed room work ≡ or_else (early_number ws pins given roots handed room work) (or_else (refuse 15 (no_repeat handed)) last)
  unfolding traverse_number early_number
  number_is =
      let d : ℕ = drivers_number pins ws (lists_fit (length roots) (length handed) room) (stage_work pins 0 ≤? work) in
      let x : Bool = if given then below (pins + 1) roots else true in
      ap (λ (b : Bool). or_else d (or_else (refuse 15 b) last)) (set_and_early x (below (pins + 1) handed) (no_repeat handed))
      ∙ ap (or_else d) (refuse_and (x && below (pins + 1) handed) (no_repeat handed) last)
      ∙ or_chain d (refuse 15 ranged) (or_else (refuse 15 (no_repeat handed)) last)

  pub number_early : (e : Refusal) → Err e ≡ done_of (early_number ws pins given roots handed room work) → Err e ≡ done_of (traverse_number pins ws given roots handed room work)
  number_early e q =
      or_refused (early_number ws pins given roots handed room work) (or_else (refuse 15 (no_repeat handed)) last) tt e q ∙ ap done_of (sym number_is)

  pub number_repeat : early_number ws pins given roots handed room work ≡ 0 → no_repeat handed ≡ false → traverse_number pins ws given roots handed room work ≡ 15
  number_repeat z f = number_is ∙ rw (z, f)

  pub number_last : early_number ws pins given roots handed room work ≡ 0 → no_repeat handed ≡ true → traverse_number pins ws given roots handed room work ≡ last
  number_last z t = number_is ∙ rw (z, t)
