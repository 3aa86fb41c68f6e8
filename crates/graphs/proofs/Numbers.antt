-- The numbers 1, 2 and 12 of a graph, in the code's shape.
use mathlib.Core.Path.{◌≡◌, sym, ap, ◌∙◌}
use mathlib.Core.Bool.{Bool, true, false, ◌&&◌}
use mathlib.Core.List.{List}
use Prim.Native.Nat.{ℕ, ◌+◌, ◌*◌}
use native.Mathlib.Omega.{arith}
use lib.ListN.{length, get_or}
use borrow.Author.Tests.{leb-true, eqb-true}
use Rattle.std.specs.Prelude.{Ok, Err, ◌==◌}
use Rattle.laws.specs.Tests.{◌≤?◌}
use Rattle.laws.specs.Words.{zeros}
use Rattle.laws.proofs.Tests.{and_l, and_r}
use Rattle.laws.proofs.Words.{zeros_at, zeros-length}
use Rattle.rules.specs.declared.GraphCounts.{GraphCounts}
use Rattle.rules.specs.declared.Refusal.TheVariants.{Bounds, Lengths, Graph as GraphRefused}
use Rattle.rules.specs.Bounds.{graph_within, stage_work}
use Rattle.rules.specs.Refusals.{drivers_fit}
use Rattle.rules.specs.Answers.{endpoints, graph_long, graph_fits, graph_number, done_of}
use Rattle.marks.specs.Marking.{Clear}
use Rattle.graphs.specs.Parts.{Rows, records_ok, lent, Fitting}
use Rattle.graphs.proofs.Records.{in_order}

-- 2 of a graph, with the work words
abbrev long_by : GraphCounts → List ℕ → List ℕ → List ℕ → List ℕ → List ℕ → Bool
long_by c drivers outputs dffs rams w = graph_long c (lent drivers outputs dffs rams) && (stage_work c.pins (endpoints c) ≤? length w)

-- ---- what passing them gives
all_four : {P : Type 0} (a b c d : Bool) → (((a && b) && c) && d) ≡ true → (a ≡ true → b ≡ true → c ≡ true → d ≡ true → P) → P
all_four a b c d h k =
    let abc = and_l ((a && b) && c) d h in
    let ab = and_l (a && b) c abc in
    k (and_l a b ab) (and_r a b ab) (and_r (a && b) c abc) (and_r ((a && b) && c) d h)

module _ (c : GraphCounts) (drivers outputs dffs rams w : List ℕ) where
  pub fitting : (a b : Bool) → a ≡ graph_within c → a ≡ true → b ≡ long_by c drivers outputs dffs rams w → b ≡ true
      → w ≡ zeros (length w) → Fitting c drivers outputs dffs rams w
  fitting a b ea ta eb tb z =
      all_four (c.pins ≤? 16777215) (c.outputs ≤? 1048576) (c.dffs ≤? 1048576) (c.rams ≤? 1048576) (sym ea ∙ ta) (λ p o f k.
      all_four (length drivers == 3 * (c.pins + 1)) (length outputs == c.outputs) (length dffs == 3 * c.dffs) (length rams == 123 * c.rams)
      (and_l tables enough (sym eb ∙ tb)) (λ dl ol fl kl. record {
        drivers_long_lem = eqb-true (length drivers) (3 * (c.pins + 1)) dl;
        dffs_long = eqb-true (length dffs) (3 * c.dffs) fl;
        rams_long = eqb-true (length rams) (123 * c.rams) kl;
        rams_few = leb-true c.rams 1048576 k;
        work_long_lem = omega (arith, leb-true (stage_work c.pins (c.outputs + c.dffs + c.rams)) (length w) (and_r tables enough (sym eb ∙ tb)));
        zero = λ j. ap (λ (x : List ℕ). get_or x j 0) z ∙ zeros_at (length w) j;
      }))
    where
      tables : Bool
      tables = (length drivers == 3 * (c.pins + 1)) && (length outputs == c.outputs) && (length dffs == 3 * c.dffs) && (length rams == 123 * c.rams)

      enough : Bool
      enough = stage_work c.pins (c.outputs + c.dffs + c.rams) ≤? length w

  module _ (fit : Fitting c drivers outputs dffs rams w) where
    pub rows_long : Rows drivers dffs c.dffs rams c.rams c.pins
    rows_long = record {
      drivers_long_lem = omega (arith, fit.drivers_long_lem);
      dffs_long = omega (arith, fit.dffs_long);
      rams_long = omega (arith, fit.rams_long);
      memories_few = fit.rams_few;
    }

    pub all_clear : Clear w 0 (4 * (c.pins + 1))
    all_clear = record { long = omega (arith, fit.work_long_lem); none = λ p l. fit.zero (0 + p) }

  -- ---- 12
  pub drives_no : (a : Bool) → a ≡ drivers_fit drivers c.pins → a ≡ false → false ≡ graph_fits c (lent drivers outputs dffs rams)
  drives_no a e f = rw (sym e ∙ f)

  pub drives_yes : (a : Bool) → a ≡ drivers_fit drivers c.pins → a ≡ true → drivers_fit drivers c.pins ≡ true
  drives_yes a e t = sym e ∙ t

  pub records_tell : (a b : Bool) → a ≡ drivers_fit drivers c.pins → a ≡ true → b ≡ records_ok drivers outputs dffs c.dffs rams c.rams c.pins
      → b ≡ graph_fits c (lent drivers outputs dffs rams)
  records_tell a b e t q = rw (sym e ∙ t) (q ∙ in_order c drivers outputs dffs rams)

  -- ---- the number
  module _ (counts lengths a : Bool) (ea : a ≡ graph_within c) where
    pub not_within : a ≡ false → Err Bounds ≡ done_of (graph_number c (lent drivers outputs dffs rams) (length w) counts lengths)
    not_within f = rw (sym ea ∙ f)

    module _ (ta : a ≡ true) where
      pub no_counts : counts ≡ false → Err Bounds ≡ done_of (graph_number c (lent drivers outputs dffs rams) (length w) counts lengths)
      no_counts f = rw (sym ea ∙ ta, f)

      module _ (tc : counts ≡ true) (b : Bool) (eb : b ≡ long_by c drivers outputs dffs rams w) where
        pub not_long : b ≡ false → Err Lengths ≡ done_of (graph_number c (lent drivers outputs dffs rams) (length w) counts lengths)
        not_long f = rw (sym ea ∙ ta, tc, sym eb ∙ f)

        module _ (tb : b ≡ true) where
          pub no_lengths : lengths ≡ false → Err Lengths ≡ done_of (graph_number c (lent drivers outputs dffs rams) (length w) counts lengths)
          no_lengths f = rw (sym ea ∙ ta, tc, sym eb ∙ tb, f)

          module _ (tl : lengths ≡ true) (g : Bool) (eg : g ≡ graph_fits c (lent drivers outputs dffs rams)) where
            pub not_fitting : g ≡ false → Err GraphRefused ≡ done_of (graph_number c (lent drivers outputs dffs rams) (length w) counts lengths)
            not_fitting f = rw (sym ea ∙ ta, tc, sym eb ∙ tb, tl, sym eg ∙ f)

            pub all_fits : g ≡ true → Ok tt ≡ done_of (graph_number c (lent drivers outputs dffs rams) (length w) counts lengths)
            all_fits t = rw (sym ea ∙ ta, tc, sym eb ∙ tb, tl, sym eg ∙ t)

-- ---- the call: words zeroed before and after
pub zeros_self : (w : List ℕ) (k : ℕ) → w ≡ zeros k → w ≡ zeros (length w)
zeros_self w k e = e ∙ ap zeros (sym (ap length e ∙ zeros-length k))
