-- How many there can be: endpoints taken, pins handed on, stages. Each endpoint is taken once, and no pin is handed on twice.
use Rattle.std.specs.Prelude.{Option, None, Some}
use mathlib.Core.Path.{◌≡◌, ap}
use mathlib.Core.List.{List, []}
use Prim.Native.Nat.{ℕ, ◌+◌, ◌-◌, ◌≤◌, ◌<◌}
use native.Mathlib.Omega.{arith}
use lib.ListN.{length}
use Rattle.laws.specs.Lists.{count}
use Rattle.laws.proofs.Bags.{count-append, of_append}
use Rattle.laws.proofs.Sets.{count_removes}
use Rattle.rules.specs.Graph.{Graph, pin_count}
use Rattle.rules.specs.Stages.{split, stages_from}
use Rattle.rules.specs.Tables.{all_handed, all_taken}
use Rattle.cuts.specs.Checked.{Checked}
use Rattle.cuts.proofs.Lists.{same_length, fits_from_one}
use Rattle.cuts.proofs.Order.{order_fits}
use Rattle.cuts.proofs.Exact.{handed_visited, handed_once, handed_apart}
use Rattle.cuts.proofs.Next.{taken_le}
use Rattle.cuts.proofs.Stages.{Climbs, stages_by, last_taken}

module _ (g : Graph) (ck : Checked g) where
  -- ---- what one split hands on
  pub handed_fits : (left before : List ℕ) (d : Option ℕ) (p : ℕ) → 0 < count p (split g left before d).handed → (0 < p) × (p ≤ pin_count g)
  handed_fits left before d p m = order_fits g ck left before p (handed_visited g left before d p m)

  pub split_handed : (left before : List ℕ) (d : Option ℕ) → length (split g left before d).handed ≤ pin_count g
  split_handed left before d = fits_from_one (pin_count g) (split g left before d).handed (handed_once g left before d ck) (handed_fits left before d)

  -- ---- the endpoints taken in all
  pub stages-once : (bs : List ℕ) (a : ℕ) (left before : List ℕ) → Climbs before a bs → (e : ℕ)
      → count e (all_taken (stages_from g a left before bs)) ≡ count e left
  stages-once = stages_by g ck (λ bs a left before rows. (e : ℕ) → count e (all_taken rows) ≡ count e left)
      (λ bs a left before w e. omega (arith, count-append e (split g left before None).taken [], ap (count e) (last_taken g ck left before)))
      (λ b bs a left before rest le n ih e. omega (
        arith,
        ih e,
        count-append e (split g left before (Some (b - a))).taken (all_taken rest),
        count_removes left (split g left before (Some (b - a))).taken e,
        taken_le g left before (Some (b - a)) e,
      ))

  pub stages_taken : (bs : List ℕ) (a : ℕ) (left before : List ℕ) → Climbs before a bs
      → length (all_taken (stages_from g a left before bs)) ≡ length left
  stages_taken bs a left before c = same_length (all_taken (stages_from g a left before bs)) left (stages-once bs a left before c)

  -- ---- the pins handed on in all
  pub stages_handed_once : (bs : List ℕ) (a : ℕ) (left before : List ℕ) → Climbs before a bs → ((p : ℕ) → count p before ≤ 1)
      → (p : ℕ) → count p before + count p (all_handed (stages_from g a left before bs)) ≤ 1
  stages_handed_once = stages_by g ck (λ bs a left before rows. ((p : ℕ) → count p before ≤ 1) → (p : ℕ) → count p before + count p (all_handed rows) ≤ 1)
      (λ bs a left before w h p. omega (
        arith,
        handed_apart g left before None ck h p,
        count-append p before (split g left before None).handed,
        count-append p (split g left before None).handed [],
      ))
      (λ b bs a left before rest le n ih h p. omega (
        arith,
        ih (handed_apart g left before (Some (b - a)) ck h) p,
        count-append p before (split g left before (Some (b - a))).handed,
        count-append p (split g left before (Some (b - a))).handed (all_handed rest),
      ))

  pub stages_handed_fit : (bs : List ℕ) (a : ℕ) (left before : List ℕ) → Climbs before a bs
      → (p : ℕ) → 0 < count p (all_handed (stages_from g a left before bs)) → (0 < p) × (p ≤ pin_count g)
  stages_handed_fit = stages_by g ck (λ bs a left before rows. (p : ℕ) → 0 < count p (all_handed rows) → (0 < p) × (p ≤ pin_count g))
      (λ bs a left before w p m. of_append p (split g left before None).handed [] m (handed_fits left before None p) (λ z. absurd (omega arith)))
      (λ b bs a left before rest le n ih p m. of_append p (split g left before (Some (b - a))).handed (all_handed rest) m
      (handed_fits left before (Some (b - a)) p) (ih p))

  pub stages_handed : (bs : List ℕ) (a : ℕ) (left : List ℕ) → Climbs [] a bs → length (all_handed (stages_from g a left [] bs)) ≤ pin_count g
  stages_handed bs a left c = fits_from_one (pin_count g) (all_handed (stages_from g a left [] bs))
      (λ p. omega (arith, stages_handed_once bs a left [] c (λ q. omega arith) p))
      (stages_handed_fit bs a left [] c)

  -- ---- one stage more than there are levels
  pub stages_rows : (bs : List ℕ) (a : ℕ) (left before : List ℕ) → Climbs before a bs
      → (0 < length (stages_from g a left before bs)) × (length (stages_from g a left before bs) ≤ length bs + 1)
  stages_rows = stages_by g ck (λ bs a left before rows. (0 < length rows) × (length rows ≤ length bs + 1))
      (λ bs a left before w. (omega arith, omega arith))
      (λ b bs a left before rest le n ih. (omega arith, omega (arith, ih.1)))
