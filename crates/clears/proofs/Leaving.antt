-- Stops added and endpoints that leave, one after the other.
use mathlib.Core.Path.{◌≡◌, refl, sym, ap, subst, ◌∙◌}
use mathlib.Core.Bool.{Bool}
use mathlib.Core.List.{List, [], ◌∷◌, ◌++◌}
use Prim.Native.Nat.{ℕ, ◌+◌, ◌*◌, ◌<◌, ◌≤◌}
use native.Mathlib.Numerals.{add-one}
use native.Mathlib.Omega.{arith}
use lib.ListN.{length, get_or, take, set, length-set}
use lib.Seq.{get_or-set_other, get_or-set_same, take-suc, take_all}
use borrow.Author.Tests.{eqb-true, eqb-false}
use Rattle.std.specs.Prelude.{if◌then◌else◌, ◌==◌}
use Rattle.laws.specs.Lists.{count, member, over}
use Rattle.laws.specs.Sets.{remove}
use Rattle.laws.specs.Words.{part}
use Rattle.laws.proofs.Tests.{by_test, if_true}
use Rattle.laws.proofs.Bags.{member_last, member_other}
use Rattle.laws.proofs.Folds.{over-take}
use Rattle.laws.proofs.Words.{part_length, part_at}
use Rattle.members.specs.Set.{Within, SetIn, Removed}
use Rattle.members.proofs.Frames.{within_none, within_on, within-set}
use Rattle.joins.specs.State.{Takens}
use Rattle.clears.specs.State.{StopsAdded, Left}

-- ---- stops: the first i of count
pub record StoppingTo (t : List ℕ) (first count m : ℕ) (w₀ w : List ℕ) (i : ℕ) : Type 0 where
  pub inside : i ≤ count
  pub takens : Takens t first count m
  pub long : first + count ≤ length t
  pub room : 2 * m ≤ length w
  pub stops : (p : ℕ) → p < m → get_or w (m + p) 0 ≡ (if member p (take i (part t first count)) then 1 else get_or w₀ (m + p) 0)
  pub kept : Within m (2 * m) w₀ w
  pub same_length : length w ≡ length w₀

pub stop_begins : (t : List ℕ) (first count m : ℕ) (w : List ℕ) → Takens t first count m → 2 * m ≤ length w → StoppingTo t first count m w w 0
stop_begins t first count m w k h = record {
  inside = omega arith;
  takens = k;
  long = k.long;
  room = h;
  stops = λ p l. refl;
  kept = within_none m (2 * m) w;
  same_length = refl;
}

module _ (t : List ℕ) (first count m : ℕ) (w₀ w : List ℕ) (i : ℕ) (s : StoppingTo t first count m w₀ w i) where
  t_long : length (part t first count) ≡ count
  t_long = part_length t first count s.long

  module _ (l : i < count) (p : ℕ) (q : p ≡ get_or t (first + i) 0) where
    stop_inside : p < m
    stop_inside = omega (arith, s.takens.inside i l)

    pub stop_room : m + p < length w
    stop_room = omega (arith, stop_inside, s.room)

    done_is : take (i + 1) (part t first count) ≡ take i (part t first count) ++ (p ∷ [])
    done_is = ap (λ (x : ℕ). take x (part t first count)) (add-one i) ∙ take-suc (part t first count) i 0 (omega (arith, t_long))
        ∙ ap (λ (x : ℕ). take i (part t first count) ++ (x ∷ [])) (part_at t first count i l ∙ sym q)

    pub stop_goes_on : StoppingTo t first count m w₀ (set w (m + p) 1) (i + 1)
    stop_goes_on = record {
      inside = omega arith;
      takens = s.takens;
      long = s.long;
      room = omega (arith, length-set w (m + p) 1, s.room);
      stops = λ x lx. by_test (x == p)
          (λ y. let d = eqb-true x p y in
          ap (λ (v : ℕ). get_or (set w (m + p) 1) (m + v) 0) d ∙ get_or-set_same w (m + p) 1 0 stop_room
          ∙ sym (if_true (member x (take (i + 1) (part t first count))) 1 (get_or w₀ (m + x) 0)
          (ap (member x) done_is ∙ ap (λ (v : ℕ). member v (take i (part t first count) ++ (p ∷ []))) d ∙ member_last p (take i (part t first count)))))
          (λ f. let n = eqb-false x p f in
          get_or-set_other w (m + p) (m + x) 1 0 (λ d. n (omega arith)) ∙ s.stops x lx
          ∙ ap (λ (b : Bool). if b then 1 else get_or w₀ (m + x) 0) (sym (ap (member x) done_is ∙ member_other p x (take i (part t first count)) n)));
      kept = within-set m (2 * m) w₀ w (m + p) 1 (omega arith) (omega (arith, stop_inside)) s.kept;
      same_length = length-set w (m + p) 1 ∙ s.same_length;
    }

  pub stop_ends : count ≤ i → StopsAdded m (part t first count) w₀ w
  stop_ends l = record {
    stops = λ p lp. s.stops p lp ∙ ap (λ (x : List ℕ). if member p x then 1 else get_or w₀ (m + p) 0) (take_all i (part t first count) (omega (arith, t_long)));
    kept = s.kept;
  }

-- ---- endpoints: the first i of count have left
pub record LeavingTo (t : List ℕ) (first count m ends left : ℕ) (w₀ w : List ℕ) (n i : ℕ) : Type 0 where
  pub inside : i ≤ count
  pub takens : Takens t first count ends
  pub long : first + count ≤ length t
  pub done : Left m ends left (take i (part t first count)) w₀ w n
  pub same_length : length w ≡ length w₀

pub leave_begins : (t : List ℕ) (first count m ends left : ℕ) (w : List ℕ) → Takens t first count ends → SetIn w (8 * m) ends left
    → LeavingTo t first count m ends left w w left 0
leave_begins t first count m ends left w k s = record {
  inside = omega arith;
  takens = k;
  long = k.long;
  done = record { holds = s; members = refl; kept = within_none (8 * m) (8 * m + 2 * ends) w };
  same_length = refl;
}

module _ (t : List ℕ) (first count m ends left : ℕ) (w₀ w : List ℕ) (n i : ℕ) (s : LeavingTo t first count m ends left w₀ w n i) where
  pub leave_set : SetIn w (8 * m) ends n
  leave_set = s.done.holds

  l_long : length (part t first count) ≡ count
  l_long = part_length t first count s.long

  module _ (l : i < count) (e : ℕ) (q : e ≡ get_or t (first + i) 0) where
    pub leave_inside : e < ends
    leave_inside = omega (arith, s.takens.inside i l)

    pub leave_goes_on : (w' : List ℕ) (n' : ℕ) → Removed w (8 * m) ends n e w' n' → LeavingTo t first count m ends left w₀ w' n' (i + 1)
    leave_goes_on w' n' r = record {
      inside = omega arith;
      takens = s.takens;
      long = s.long;
      done = record {
        holds = r.holds;
        members = r.members ∙ (λ j. remove (s.done.members j) ((q ∙ sym (part_at t first count i l)) j))
            ∙ sym (over-take remove (part w₀ (8 * m) left) (part t first count) i 0 (omega (arith, l_long)))
            ∙ ap (λ (x : ℕ). over remove (part w₀ (8 * m) left) (take x (part t first count))) (sym (add-one i));
        kept = within_on (8 * m) (8 * m + 2 * ends) w₀ w w' s.done.kept r.kept;
      };
      same_length = r.kept.long ∙ s.same_length;
    }

  pub leave_ends : count ≤ i → Left m ends left (part t first count) w₀ w n
  leave_ends l = subst (λ (x : List ℕ). Left m ends left x w₀ w n) (take_all i (part t first count) (omega (arith, l_long))) s.done
