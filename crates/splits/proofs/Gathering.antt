-- From idle words to visits, levels and readers.
use mathlib.Core.Path.{◌≡◌, sym, ap, subst, ◌∙◌}
use mathlib.Core.List.{List, []}
use Prim.Native.Nat.{ℕ, ◌+◌, ◌*◌, ◌<◌, ◌≤◌}
use native.Mathlib.Omega.{arith}
use lib.ListN.{length}
use Rattle.std.specs.Prelude.{if◌then◌else◌}
use Rattle.laws.specs.Lists.{count, member, flat, over}
use Rattle.laws.specs.Search.{level}
use Rattle.laws.specs.Words.{part}
use Rattle.laws.proofs.Bags.{count-append}
use Rattle.laws.proofs.Words.{part_none, part_length, part_in}
use Rattle.laws.proofs.Visits.{Ranked, visit_at, visits_ranked}
use Rattle.rules.specs.declared.GraphCounts.{GraphCounts}
use Rattle.rules.specs.Answers.{endpoints}
use Rattle.walk.specs.State.{goes, list_of, Going}
use Rattle.walk.proofs.Leads.{goes_below}
use Rattle.walk.proofs.Visits.{walk_begins}
use Rattle.reads.specs.Reads.{Lent, ins_of}
use Rattle.reads.proofs.Inputs.{ins_few}
use Rattle.levels.specs.State.{stops_of, Spare, Lefts, Gathered, Ranks, Levelled}
use Rattle.levels.proofs.Stops.{stops_same, going_same, list_same}
use Rattle.levels.proofs.Gathers.{spare_left, flat_few}
use Rattle.splits.specs.State.{Idle, order_in, Prepared}

module _ (c : GraphCounts) (ws os ds rs : List ℕ) (m : ℕ) (w : List ℕ) (left : ℕ) (idle : Idle ws m (endpoints c) w left) where
  pub gather_lefts : Lefts w m left (endpoints c)
  gather_lefts = record { long = omega (arith, idle.lefts.long, idle.lefts.few); inside = idle.lefts.inside }

  whole : 8 * m ≤ length w
  whole = omega (arith, idle.lefts.long)

  pub gather_going : Going ws m w 0 0
  gather_going = walk_begins ws m w idle.low idle.fits idle.drivers_long (omega (arith, whole)) idle.flags idle.marks
      (λ j l u. idle.middle j l (omega arith))

  spare_of : (b : ℕ) → b ≤ 4294967295 → Spare w m b
  spare_of b h = record { room = λ p l. omega (arith, idle.middle (5 * m + p) (omega arith) (omega arith)); long = whole }

  pub gather_spare : Spare w m (91 * left)
  gather_spare = spare_of (91 * left) (omega (arith, idle.lefts.few, idle.lefts.room))

  module _ (lent : Lent c os ds rs) (w₁ : List ℕ) (k : ℕ) (g : Gathered ws m (stops_of w m) w 0 (flat (ins_of c os ds rs) (part w (8 * m) left)) w₁ k) where
    abbrev before : List ℕ
    before = stops_of w m

    abbrev nx : ℕ → List ℕ
    nx = goes ws m before

    listed : list_of w₁ m k ≡ order_in c ws os ds rs m (part w (8 * m) left) (stops_of w m)
    unfolding order_in
    listed = g.list ∙ ap (λ (t : List ℕ). over (visit_at nx) t (flat (ins_of c os ds rs) (part w (8 * m) left))) (part_none w (3 * m))

    stops₁ : stops_of w₁ m ≡ stops_of w m
    stops₁ = stops_same w w₁ m g.stops

    pub gather_ranks : Ranks ws m w₁ k
    gather_ranks = record {
      ranked = subst (λ (t : List ℕ). Ranked (goes ws m t) [] (list_of w₁ m k)) (sym stops₁) ranked_list;
      zero = λ p l. g.levels (4 * m + p) (omega arith) (omega arith) ∙ idle.middle (4 * m + p) (omega arith) (omega arith);
      few = idle.few;
    }
      where
        ranked_list : Ranked (goes ws m (stops_of w m)) [] (list_of w₁ m k)
        ranked_list = subst (Ranked (goes ws m (stops_of w m)) []) (sym (g.list ∙ ap (λ (t : List ℕ). over (visit_at nx) t (flat (ins_of c os ds rs) (part w (8 * m) left))) (part_none w (3 * m))))
            (visits_ranked nx (goes_below ws m idle.low idle.fits (stops_of w m)) (flat (ins_of c os ds rs) (part w (8 * m) left)))

    pub gather_spare_levels : Spare w₁ m (2 * k)
    gather_spare_levels =
        let f = flat_few (ins_of c os ds rs) 91 (part w (8 * m) left) (λ x mx. ins_few c os ds rs x lent (inside_left x mx)) in
        let pl : length (part w (8 * m) left) ≡ left = part_length w (8 * m) left gather_lefts.long in
        spare_left ws m (stops_of w m) w 0 (flat (ins_of c os ds rs) (part w (8 * m) left)) w₁ k (91 * left) (2 * k) g (omega (arith, f, pl))
        (spare_of (91 * left + 2 * k) (omega (arith, idle.lefts.few, idle.lefts.room, idle.few, g.going.listing.count)))
      where
        inside_left : (x : ℕ) → 0 < count x (part w (8 * m) left) → x < endpoints c
        inside_left x mx = part_in w (8 * m) left x gather_lefts.long mx (λ j l e. omega (arith, idle.lefts.inside j l))

    pub gather_done : (w₂ : List ℕ) → Levelled ws m (stops_of w₁ m) w₁ k w₂ → Prepared c ws os ds rs m w left w₂ k
    gather_done w₂ v' = record {
      going = going_same ws m w₁ w₂ k (λ j l. v.kept.before j l) v.kept.long g.going;
      list = list_same ws m w₁ w₂ k (λ j l. v.kept.before j l) v.kept.long g.going.listing.count g.going.listing.long ∙ listed;
      levels = λ p l. v.levels p l ∙ ap (λ (t : List ℕ). if member p t then level (goes ws m (stops_of w m)) p else 0) listed;
      readers = λ p l. omega (
        arith,
        v.readers p l,
        g.readers p l,
        idle.middle (5 * m + p) (omega arith) (omega arith),
        ap (λ (t : List ℕ). count p (flat (goes ws m (stops_of w m)) t)) listed,
        count-append p (flat (goes ws m (stops_of w m)) (order_in c ws os ds rs m (part w (8 * m) left) (stops_of w m))) (flat (ins_of c os ds rs) (part w (8 * m) left)),
      );
      stops = λ p l. v.kept.before (m + p) (omega arith) ∙ g.stops p l;
      rest = λ j l. v.kept.after j l ∙ g.rest j l;
      long = v.kept.long ∙ g.long;
    }
      where
        v : Levelled ws m (stops_of w m) w₁ k w₂
        v = subst (λ (t : List ℕ). Levelled ws m t w₁ k w₂) (stops_same w w₁ m g.stops) v'
