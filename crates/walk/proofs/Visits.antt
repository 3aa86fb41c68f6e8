-- A visit of one pin, turn by turn, and of several.
use mathlib.Core.Path.{◌≡◌, refl, sym, ap, subst, ◌∙◌}
use mathlib.Core.Bool.{true}
use mathlib.Core.List.{List, [], ◌∷◌}
use Prim.Native.Nat.{ℕ, ◌+◌, ◌-◌, ◌*◌, ◌<◌, ◌≤◌}
use native.Mathlib.Nat.{add-zero}
use native.Mathlib.Numerals.{add-one}
use native.Mathlib.Omega.{arith}
use lib.ListN.{length, get_or, take, set, length-set}
use lib.Seq.{take_all, get_or-set_other}
use Rattle.laws.specs.Lists.{count, member, over}
use Rattle.laws.specs.Search.{visits}
use Rattle.laws.specs.Words.{stack_of}
use Rattle.laws.proofs.Tests.{one_zero, one_set}
use Rattle.laws.proofs.Bags.{member_true, member_false}
use Rattle.laws.proofs.Folds.{over-take}
use Rattle.laws.proofs.Words.{part_none, part-before}
use Rattle.laws.proofs.Counting.{count_none}
use Rattle.laws.proofs.Visits.{visit_at, visit_again}
use Rattle.laws.proofs.Stacks.{stack_none, Grows}
use Rattle.rules.specs.Graph.{Graph}
use Rattle.rules.specs.Stages.{back}
use Rattle.rules.specs.Tables.{drivers_in}
use Rattle.rules.specs.Refusals.{drivers_fit}
use Rattle.walk.specs.State.{goes, list_of, Stops, Going, Kept, goal, Turned, Visited, AllVisited}
use Rattle.walk.proofs.Leads.{goes_below, goes_back}
use Rattle.walk.proofs.Turns.{pushed, pushed_stack}

-- ---- what a walk keeps, step after step
pub kept-none : (m : ℕ) (w : List ℕ) → Kept m w w
kept-none m w = record { long = refl; stops = λ p l. refl; rest = λ j l. refl }

pub kept_on : (m : ℕ) (u v w : List ℕ) → Kept m u v → Kept m v w → Kept m u w
kept_on m u v w a b = record {
  long = b.long ∙ a.long;
  stops = λ p l. b.stops p l ∙ a.stops p l;
  rest = λ j l. b.rest j l ∙ a.rest j l;
}

pub stops_kept : (m : ℕ) (v w handed : List ℕ) → Kept m v w → Stops v m handed → Stops w m handed
stops_kept m v w handed k s = record { stop = λ p l. k.stops p l ∙ s.stop p l }

-- between the turns of a visit of the pin p, which began at v with c pins listed
pub record Visiting (ws : List ℕ) (m : ℕ) (v : List ℕ) (c p : ℕ) (w : List ℕ) (h k : ℕ) : Type 0 where
  pub going : Going ws m w h k
  pub kept : Kept m v w
  pub same : (handed : List ℕ) → Stops v m handed → goal ws m handed w h k ≡ visit_at (goes ws m handed) (list_of v m c) p

module _ (ws : List ℕ) (m : ℕ) (w : List ℕ) (k p v : ℕ) (g : Going ws m w 0 k) (l : p < m) (e : v ≡ get_or w p 0) where
  -- p has a mark: it is listed
  pub visited_before : (v ≡ 0 → ⊥) → Visited ws m w k p w k
  visited_before n = record {
    going = g;
    kept = kept-none m w;
    list = λ handed st. sym (visit_again (goes ws m handed) (goes_below ws m g.low g.fits handed) (list_of w m k) p
        (member_true p (list_of w m k) (one_set (member p (list_of w m k)) (λ z. n (e ∙ g.listing.marks p l ∙ z)))));
  }

  -- p has no mark: it is the stack
  pub visit_begins : v ≡ 0 → Visiting ws m (set w (2 * m) p) k p (set w (2 * m) p) 1 k
  visit_begins z = subst (λ (n : ℕ). Visiting ws m (set w n p) k p (set w n p) 1 k) (add-zero (2 * m)) (record {
    going = pushed ws m w 0 k g p gr;
    kept = kept-none m (set w (2 * m + 0) p);
    same = λ handed st. ap (over (visit_at (goes ws m handed)) (list_of (set w (2 * m + 0) p) m k)) begun;
  })
    where
      new : count p (list_of w m k) ≡ 0
      new = member_false p (list_of w m k) (one_zero (member p (list_of w m k)) (sym (g.listing.marks p l) ∙ sym e ∙ z))

      gr : Grows 0 (list_of w m k) m (p ∷ stack_of w (2 * m) 0)
      gr = rw (stack_none w (2 * m)) (omega arith, new, omega arith)

      begun : stack_of (set w (2 * m + 0) p) (2 * m) 1 ≡ p ∷ []
      begun = pushed_stack ws m w 0 k g p gr ∙ ap (λ (s : List ℕ). p ∷ s) (stack_none w (2 * m))

pub visit_goes_on : (ws : List ℕ) (m : ℕ) (v : List ℕ) (c p : ℕ) (w : List ℕ) (h k : ℕ) (w' : List ℕ) (h' k' : ℕ)
    → Visiting ws m v c p w h k → Turned ws m w h k w' h' k' → Visiting ws m v c p w' h' k'
visit_goes_on ws m v c p w h k w' h' k' b t = record {
  going = t.going;
  kept = kept_on m v w w' b.kept t.kept;
  same = λ handed st. t.same handed (stops_kept m v w handed b.kept st) ∙ b.same handed st;
}

-- the loop began when p was on the stack already
begun_kept : (m : ℕ) (w : List ℕ) (p : ℕ) → 1 ≤ m → Kept m w (set w (2 * m) p)
begun_kept m w p l = record {
  long = length-set w (2 * m) p;
  stops = λ q h. get_or-set_other w (2 * m) (m + q) p 0 (omega arith);
  rest = λ j h. get_or-set_other w (2 * m) j p 0 (omega arith);
}

pub visit_ends : (ws : List ℕ) (m : ℕ) (v : List ℕ) (c p : ℕ) (w : List ℕ) (h k : ℕ)
    → Visiting ws m (set v (2 * m) p) c p w h k → h ≤ 0 → Visited ws m v c p w k
visit_ends ws m v c p w h k b z =
    let e : h ≡ 0 = omega arith in
    let lo : 1 ≤ m = b.going.low in
    let kept = begun_kept m v p lo in
    record {
      going = rw e at b.going;
      kept = kept_on m v (set v (2 * m) p) w kept b.kept;
      list = λ handed st.
          ap (over (visit_at (goes ws m handed)) (list_of w m k)) (sym (stack_none w (2 * m)) ∙ ap (stack_of w (2 * m)) (sym e))
          ∙ b.same handed (stops_kept m v (set v (2 * m) p) handed kept st)
          ∙ ap (λ (vis : List ℕ). visit_at (goes ws m handed) vis p) (part-before v (3 * m) c (2 * m) p (omega arith));
    }

-- ---- several visits: the first i of the roots are done
pub record VisitingAll (ws : List ℕ) (m : ℕ) (roots v : List ℕ) (c : ℕ) (w : List ℕ) (k i : ℕ) : Type 0 where
  pub going : Going ws m w 0 k
  pub kept : Kept m v w
  pub list : (handed : List ℕ) → Stops v m handed → list_of w m k ≡ over (visit_at (goes ws m handed)) (list_of v m c) (take i roots)

pub visits_begin : (ws : List ℕ) (m : ℕ) (roots w : List ℕ) (k : ℕ) → Going ws m w 0 k → VisitingAll ws m roots w k w k 0
visits_begin ws m roots w k g = record { going = g; kept = kept-none m w; list = λ handed st. refl }

pub visits_go_on : (ws : List ℕ) (m : ℕ) (roots v : List ℕ) (c : ℕ) (w : List ℕ) (k i p : ℕ) (w' : List ℕ) (k' : ℕ)
    → VisitingAll ws m roots v c w k i → i < length roots → p ≡ get_or roots i 0 → Visited ws m w k p w' k' → VisitingAll ws m roots v c w' k' (i + 1)
visits_go_on ws m roots v c w k i p w' k' b l e d = record {
  going = d.going;
  kept = kept_on m v w w' b.kept d.kept;
  list = λ handed st.
      d.list handed (stops_kept m v w handed b.kept st)
      ∙ (λ j. visit_at (goes ws m handed) (b.list handed st j) (e j))
      ∙ sym (over-take (visit_at (goes ws m handed)) (list_of v m c) roots i 0 l)
      ∙ ap (λ (n : ℕ). over (visit_at (goes ws m handed)) (list_of v m c) (take n roots)) (sym (add-one i));
}

pub visits_end : (ws : List ℕ) (m : ℕ) (roots v : List ℕ) (c : ℕ) (w : List ℕ) (k i : ℕ)
    → VisitingAll ws m roots v c w k i → length roots ≤ i → AllVisited ws m roots v c w k
visits_end ws m roots v c w k i b r = record {
  going = b.going;
  kept = b.kept;
  list = λ handed st. b.list handed st ∙ ap (over (visit_at (goes ws m handed)) (list_of v m c)) (take_all i roots r);
}

-- the visits of a list where nothing was listed before are the rules' own, of any graph that has the table's drivers
pub visits_are : (ws : List ℕ) (pins : ℕ) (roots w w' : List ℕ) (k : ℕ) (handed : List ℕ) (g : Graph) → AllVisited ws (pins + 1) roots w 0 w' k
    → Stops w (pins + 1) handed → g.drivers ≡ drivers_in ws pins → list_of w' (pins + 1) k ≡ visits (back g handed) roots
visits_are ws pins roots w w' k handed g a st e =
    a.list handed st ∙ (λ i. over (visit_at (goes_back ws pins handed g e i)) (part_none w (3 * (pins + 1)) i) roots)

-- ---- a walk begins where the marks, the stack and the list are 0, and each stop is 0 or 1
pub walk_begins : (ws : List ℕ) (m : ℕ) (w : List ℕ) → 1 ≤ m → drivers_fit ws (m - 1) ≡ true → 3 * m ≤ length ws → 4 * m ≤ length w
    → ((p : ℕ) → p < m → get_or w (m + p) 0 ≤ 1) → ((j : ℕ) → j < m → get_or w j 0 ≡ 0) → ((j : ℕ) → 2 * m ≤ j → j < 4 * m → get_or w j 0 ≡ 0) → Going ws m w 0 0
walk_begins ws m w lo f a b s z y = record {
  low = lo;
  fits = f;
  drivers_long = a;
  flags = s;
  listing = record {
    long = b;
    count = omega arith;
    exact = rw part_none (count_none m);
    inside = λ j l. absurd (omega arith);
    marks = λ p l. rw part_none (z p l);
    after = λ j l u. y j (omega arith) u;
  };
  height = omega arith;
  stack = rw (stack_none w (2 * m)) (omega arith);
  above = λ j l u. y j (omega arith) (omega arith);
}
