-- Demand 3 of what the calls are given and what they leave.
use mathlib.Core.Path.{◌≡◌, refl, sym, ◌∙◌}
use mathlib.Core.Bool.{Bool, true, ◌&&◌}
use mathlib.Core.List.{List, [], ◌∷◌, ◌++◌, append_assoc}
use Prim.Native.Nat.{ℕ, ◌*◌}
use native.Mathlib.Omega.{arith}
use lib.ListN.{length}
use lib.Seq.{take-append_seam, drop-append_seam}
use borrow.Author.Tests.{ne_eqb, leb-true}
use Rattle.std.specs.Prelude.{Option, None, Some, ◌==◌}
use Rattle.laws.specs.Tests.{◌≤?◌, or_else, refuse}
use Rattle.laws.specs.Lists.{count, every, upto}
use Rattle.laws.proofs.Tests.{by_test, if_true, if_false, and_l, and_r, or_zero, not_refused}
use Rattle.rules.specs.Graph.{Graph}
use Rattle.rules.specs.Stages.{endpoint_count, inputs, low, Row, stages, stages_from}
use Rattle.rules.specs.Bounds.{graph_within, stage_work, max_level, max_splits, max_stages, max_list}
use Rattle.rules.specs.Tables.{graph_in, end_marker, upper_word, all_handed, all_taken}
use Rattle.rules.specs.Refusals.{rising, something_read}
use Rattle.rules.specs.Answers.{graph_number, graph_long, endpoints, check_graph_number, split_number, stages_number, stage_rows, stages_fit}
use Rattle.cuts.specs.Checked.{Checked}
use Rattle.cuts.proofs.Checked.{number_checked, endpoints_are, second}
use Rattle.cuts.proofs.Exact.{handed_exactly, handed_once}
use Rattle.cuts.proofs.Next.{low_taken, high_left}
use Rattle.cuts.proofs.Stages.{Climbs, climbs_first, stages_by}
use Rattle.cuts.proofs.Rooms.{split_handed}
use Rattle.demands.specs.Demand3.{LegalSplit}
use Rattle.demands.specs.Demand3Calls.{OfCheck, OfSplit, upper_in, rows_in, OfStages}
use Rattle.demands.proofs.Demand3.{demand3}

pub of_check : OfCheck
unfolding check_graph_number
of_check c t work splits z reads rises = demand3 (graph_in c t) splits (number_checked c t work true true z).0 reads rises

-- ---- a split asked alone
pub split_legal : (g : Graph) → Checked g → (chosen before : List ℕ) (d : Option ℕ) → LegalSplit g chosen before d
split_legal g ck chosen before d = record {
  taken = λ e. by_test (every (low g before d) (inputs g e))
      (λ t. low_taken g chosen before d e t ∙ sym (if_true (every (low g before d) (inputs g e)) (count e chosen) 0 t))
      (λ f. high_left g chosen before d e f ∙ sym (if_false (every (low g before d) (inputs g e)) (count e chosen) 0 f));
  handed = handed_exactly g chosen before d ck;
  handed_once = handed_once g chosen before d ck;
  handed_few = split_handed g ck chosen before d;
}

pub of_split : OfSplit
unfolding split_number
of_split c t chosen before level handed taken work z =
    split_legal (graph_in c t) (number_checked c t work _ true (or_zero _ _ z).0).0 chosen before (Some level)

-- ---- the stages read back from the tables
-- an upper end that the end marker cannot be mistaken for
abbrev Plain : List Row → Type 0
Plain [] = Unit {0}
Plain (r ∷ rs) = (upper_in (upper_word r.upper) ≡ r.upper) × Plain rs

read_back : (rows : List Row) (x y z : List ℕ) → Plain rows
    → rows_in (length rows) (stage_rows rows ++ x) (all_handed rows ++ y) (all_taken rows ++ z) ≡ rows
read_back [] x y z p = refl
read_back (r ∷ rows) x y z p =
    rw (append_assoc r.stage.handed (all_handed rows) y, append_assoc r.stage.taken (all_taken rows) z)
    (rw (
      take-append_seam r.stage.handed (all_handed rows ++ y),
      take-append_seam r.stage.taken (all_taken rows ++ z),
      drop-append_seam r.stage.handed (all_handed rows ++ y),
      drop-append_seam r.stage.taken (all_taken rows ++ z),
      p.0,
      read_back rows x y z p.1,
    ))

-- the levels asked for are all below the marker
stages-plain : (g : Graph) (ck : Checked g) (bs : List ℕ) (a : ℕ) (left before : List ℕ) → Climbs before a bs
    → every (λ b. b ≤? max_level) bs ≡ true
    → Plain (stages_from g a left before bs)
stages-plain g ck = stages_by g ck (λ bs a left before rows. every (λ b. b ≤? max_level) bs ≡ true → Plain rows)
    (λ bs a left before w m. (refl, tt))
    (λ b bs a left before rest le n ih m. (
      if_false (b == end_marker) None (Some b) (ne_eqb b end_marker (λ e.
          omega (arith, e, leb-true b max_level (and_l (b ≤? max_level) (every (λ x. x ≤? max_level) bs) m)))),
      ih (and_r (b ≤? max_level) (every (λ x. x ≤? max_level) bs) m),
    ))

-- the call's own tests after those of the graph: 13, 14, 11
after_graph : (n : ℕ) (x y z : Bool) → or_else n (or_else (refuse 13 x) (or_else (refuse 14 y) (refuse 11 z))) ≡ 0
    → (n ≡ 0) × (x ≡ true) × (y ≡ true)
after_graph n x y z h =
    let w = or_zero n (or_else (refuse 13 x) (or_else (refuse 14 y) (refuse 11 z))) h in
    let v = not_refused 12 x (or_else (refuse 14 y) (refuse 11 z)) w.1 in
    (w.0, v.0, (not_refused 13 y (refuse 11 z) v.1).0)

pub of_stages : OfStages
unfolding stages_number
of_stages c t splits rows rows_long handed taken work z =
    let counts : Bool = (length splits ≤? max_splits) && every (λ b. b ≤? max_level) splits && (rows ≤? max_stages) && (handed ≤? max_list) && (taken ≤? max_list) in
    let w = after_graph (graph_number c t work counts (rows_long == 4 * rows)) (rising splits) (something_read (graph_in c t) (upto (endpoints c)))
    (stages_fit (stages (graph_in c t) splits) rows handed taken) z in
    let v = number_checked c t work counts (rows_long == 4 * rows) w.0 in
    let levels : every (λ b. b ≤? max_level) splits ≡ true = second (length splits ≤? max_splits)
    (every (λ b. b ≤? max_level) splits) (rows ≤? max_stages) (handed ≤? max_list)
    (and_l _ (taken ≤? max_list) (and_r (graph_within c) counts v.1)) in
    let long : graph_long c t ≡ true = and_l (graph_long c t) (stage_work c.pins (endpoints c) ≤? work)
    (and_l (graph_long c t && (stage_work c.pins (endpoints c) ≤? work)) (rows_long == 4 * rows) v.2) in
    record {
      legal = demand3 (graph_in c t) splits v.0 (rw (endpoints_are c t long) w.2) w.1;
      written = read_back (stages (graph_in c t) splits) _ _ _
          (stages-plain (graph_in c t) v.0 splits 0 (upto (endpoint_count (graph_in c t))) [] (climbs_first splits w.1) levels);
    }
