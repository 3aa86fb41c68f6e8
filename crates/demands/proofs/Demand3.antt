-- Demand 3 is proved.
use mathlib.Core.Path.{◌≡◌, sym, ◌∙◌, subst}
use mathlib.Core.Logic.{◌↔◌}
use mathlib.Core.List.{List, []}
use Prim.Native.Nat.{ℕ, ◌<◌}
use native.Mathlib.Omega.{arith}
use Rattle.laws.specs.Lists.{count, upto}
use Rattle.laws.proofs.Ranges.{upto_in, in_upto, length-upto}
use Rattle.rules.specs.Graph.{Graph}
use Rattle.rules.specs.Stages.{endpoint_count, stages, Stage, Row}
use Rattle.rules.specs.Work.{source_bits}
use Rattle.cuts.specs.Checked.{Checked}
use Rattle.cuts.specs.Onward.{Onward}
use Rattle.cuts.specs.Turns.{difference}
use Rattle.cuts.specs.Depths.{depth, first_reaching, first_at_least, row_at}
use Rattle.cuts.proofs.Exact.{handed_exactly}
use Rattle.cuts.proofs.Stages.{Climbs, climbs_first, IsSplit, stages-split, stages_ladder, stages-read, turn_map}
use Rattle.cuts.proofs.Depths.{leveled_first, stages_leveled, stages-placed}
use Rattle.cuts.proofs.Rooms.{stages-once, stages_taken, stages_handed_once, stages_handed, stages_rows}
use Rattle.demands.specs.Demand3.{Short, HandsOn, Demand3}
use Rattle.demands.proofs.Chains.{split_short}
use Rattle.demands.proofs.Bits.{stages-right, ready_first, holds_first}

split_hands : (g : Graph) (ck : Checked g) (left before : List ℕ) (r : Row) → IsSplit g left before r → HandsOn g left before r
split_hands g ck left before r e p = subst (λ (s : Stage). (0 < count p s.handed) ↔ Onward g left before (difference r.lower r.upper) p) (sym e)
    (handed_exactly g left before (difference r.lower r.upper) ck p)

pub demand3 : Demand3
demand3 g splits ck reads rises = record {
  once = λ e h. stages-once g ck splits 0 all [] climbs e ∙ upto_in (endpoint_count g) e h;
  only = λ e m. in_upto (endpoint_count g) e (omega (arith, m, stages-once g ck splits 0 all [] climbs e));
  bits = λ src. stages-right g ck src splits 0 all [] climbs (source_bits g src) [] (ready_first g ck src all) (holds_first g ck src);
  short = turn_map (IsSplit g) (Short g) (split_short g ck) (stages g splits) all [] (stages-split g ck splits 0 all [] climbs);
  handed = turn_map (IsSplit g) (HandsOn g) (split_hands g ck) (stages g splits) all [] (stages-split g ck splits 0 all [] climbs);
  handed_once = λ p. omega (arith, stages_handed_once g ck splits 0 all [] climbs (λ q. omega arith) p);
  place = λ e h. (placed e h).0 ∙ upto_in (endpoint_count g) e h;
  planned = λ e h. (placed e h).1;
  levels = stages_leveled g ck splits 0 all [] climbs (leveled_first g ck all);
  ladder = stages_ladder g ck splits 0 all [] climbs;
  taken_all = stages_taken g ck splits 0 all [] climbs ∙ length-upto (endpoint_count g);
  handed_few = stages_handed g ck splits 0 all climbs;
  rows_few = (stages_rows g ck splits 0 all [] climbs).1;
  reading = stages-read g ck splits 0 all [] climbs reads;
}
  where
    all : List ℕ
    all = upto (endpoint_count g)

    climbs : Climbs [] 0 splits
    climbs = climbs_first splits rises

    placed : (e : ℕ) → e < endpoint_count g
        → (count e (row_at (stages g splits) (first_reaching (depth g e) (stages g splits))).stage.taken ≡ count e all)
        × (first_reaching (depth g e) (stages g splits) ≡ first_at_least (depth g e) splits)
    placed e h = stages-placed g ck splits 0 all [] climbs (leveled_first g ck all) e (omega (arith, upto_in (endpoint_count g) e h))
