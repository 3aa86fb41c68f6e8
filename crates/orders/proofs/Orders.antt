-- The visits of all pins, in the code's shape, and what they say of loops.
use mathlib.Core.Path.{◌≡◌, sym, ◌∙◌, ap, subst}
use mathlib.Core.Bool.{not}
use mathlib.Core.List.{List, []}
use Prim.Native.Nat.{ℕ, zero, suc, ◌+◌, ◌*◌, ◌<◌, ◌≤◌}
use native.Mathlib.Numerals.{add-one}
use native.Mathlib.Omega.{arith}
use lib.ListN.{length}
use borrow.Author.Tests.{ltb-true, ltb-false, ne_eqb}
use Rattle.std.specs.Prelude.{◌==◌}
use Rattle.laws.specs.Tests.{◌<?◌}
use Rattle.laws.specs.Lists.{count, keep, over, upto}
use Rattle.laws.specs.Search.{Event, entered, explore}
use Rattle.laws.proofs.Tests.{by_test}
use Rattle.laws.proofs.Bags.{count-keep}
use Rattle.laws.proofs.Counting.{length_parts}
use Rattle.laws.proofs.Folds.{over_snoc, over-same}
use Rattle.laws.proofs.Ranges.{in_upto}
use Rattle.laws.proofs.Events.{ins, outs, explore_at, explore_has, grows_ins, search_fuel}
use Rattle.laws.proofs.Loops.{loop_free_lem}
use Rattle.laws.proofs.Stacks.{stack_none, Open, open_start, open_free, open_once}
use Rattle.rules.specs.Netlist.{Netlist}
use Rattle.rules.specs.Build.{next, events}
use Rattle.rules.specs.Refusals.{Loop, loop_free}
use Rattle.rules.proofs.Roles.{next_closed}
use Rattle.rules.proofs.Accepts.{loop_iff, rank_of, rank_low, visits_fall}
use Rattle.roles.specs.Reading.{tables, Fits}
use Rattle.rules.specs.declared.Refusal.{Refusal}
use Rattle.orders.specs.State.{goes_to, events_of, Going, Kept, LoopMet, Done, Fresh, InOrder, Looped}
use Rattle.orders.proofs.Turns.{events-none}
use Rattle.orders.proofs.Runs.{kept-none, kept_on}

-- ---- all numbers below m stand in a list: it has m entries
full : (m : ℕ) (l : List ℕ) → ((p : ℕ) → p < m → 0 < count p l) → m ≤ length l
full zero l h = omega arith
full (suc m) l h =
    let ih = full m (keep (λ x. not (m == x)) l) (λ p b. rw (count-keep (λ x. not (m == x)) p l (rw (ne_eqb m p (λ e. absurd (omega (arith, b, e)))))) (h p (omega arith))) in
    omega (arith, ih, length_parts m l, h m (omega arith))

-- ---- between visits: the events so far are those of the pins below i
pub record GoingThrough (nx : ℕ → List ℕ) (m : ℕ) (v w : List ℕ) (i k : ℕ) : Type 0 where
  pub inside : i ≤ m
  pub going : Going nx m w 0 k
  pub events_so_far : events_of w (2 * m) k ≡ over (explore_at nx m) [] (upto i)
  pub each : (u : ℕ) → u < i → 0 < ins u (events_of w (2 * m) k)
  pub kept : Kept m v w

pub through_begins : (nx : ℕ → List ℕ) (m : ℕ) (w : List ℕ) → Fresh m w → GoingThrough nx m w w 0 0
through_begins nx m w f = record {
  inside = omega arith;
  going = record {
    long = f.long;
    small = f.small;
    room = omega (arith, ap (λ (s : List Event). length (entered s)) none);
    low = omega arith;
    most = omega (arith, ap (λ (s : List Event). length (entered s)) none);
    opened = rw (stack_none w m, none) (open_start nx);
    inside = λ p i. absurd (omega (arith, i, ap (ins p) none));
    marks = λ q b. omega (arith, f.clear q b, ap (ins q) none, ap (outs q) none);
  };
  events_so_far = none;
  each = λ u l. absurd (omega arith);
  kept = kept-none m w;
}
  where
    none : events_of w (2 * m) 0 ≡ []
    none = events-none w (2 * m)

pub through_goes_on : (nx : ℕ → List ℕ) (m : ℕ) (v w : List ℕ) (i k : ℕ) → GoingThrough nx m v w i k → (w' : List ℕ) (k' : ℕ)
    → Done nx m (explore_at nx m (events_of w (2 * m) k) i) w w' k' → i < m → GoingThrough nx m v w' (i + 1) k'
through_goes_on nx m v w i k s w' k' d l = record {
  inside = omega arith;
  going = d.going;
  events_so_far = d.written ∙ ap (λ (t : List Event). explore_at nx m t i) s.events_so_far ∙ sym (over_snoc (explore_at nx m) [] (upto i) i) ∙ ap (λ (j : ℕ). over (explore_at nx m) [] (upto j)) (sym (add-one i));
  each = λ u a. by_test (u <? i)
      (λ t. omega (arith, s.each u (ltb-true u i t), grows_ins nx (suc m) (events_of w (2 * m) k) i u, ap (ins u) d.written))
      (λ f. let q : i ≡ u = omega (arith, a, ltb-false u i f) in subst (λ (x : ℕ). 0 < ins x (events_of w' (2 * m) k')) q (rw d.written (explore_has nx m (events_of w (2 * m) k) i)));
  kept = kept_on m v w w' s.kept d.kept;
}

-- ---- what it says of the netlist
module _ (kinds starts list pins nets v w : List ℕ) (i k : ℕ) (f : Fits (tables kinds starts list pins nets))
    (s : GoingThrough (goes_to (tables kinds starts list pins nets)) (length list) v w i k) where
  abbrev n : Netlist
  n = tables kinds starts list pins nets

  abbrev m : ℕ
  m = length list

  closed : (u o : ℕ) → u < m → 0 < count o (next n u) → o < m
  closed u o h c = next_closed n f.accepted u o h c

  pub through_finds : (w' : List ℕ) (e : Refusal) → LoopMet (goes_to (tables kinds starts list pins nets)) (length list) w w' e → Looped (tables kinds starts list pins nets) v w' e
  unfolding goes_to
  through_finds w' e o = record {
    refusal = o.refusal;
    looped = by_test (loop_free n) (λ t. absurd (loop_free_lem (next n) m closed t o.pin o.inside o.chain)) (λ q. q);
    kept = kept_on m v w w' s.kept o.kept;
  }

  module _ (l : length list ≤ i) where
    all_in_lem : (u : ℕ) → u < m → 0 < ins u (events_of w (2 * m) k)
    all_in_lem u h = s.each u (omega (arith, h, l))

    flat : Open (goes_to n) [] (events_of w (2 * m) k)
    flat = subst (λ (t : List ℕ). Open (goes_to n) t (events_of w (2 * m) k)) (stack_none w m) s.going.opened

    free : Loop n → ⊥
    unfolding goes_to
    free c = open_free (next n) (events_of w (2 * m) k) flat c.pin (all_in_lem c.pin c.inside) c.chain

    count_is : k ≡ 2 * m
    count_is = omega (arith, s.going.room, s.going.most, full m (entered (events_of w (2 * m) k)) all_in_lem)

    order_is : over (explore_at (next n) m) [] (upto m) ≡ events n
    order_is = over-same (explore_at (next n) m) (explore (next n) m) (upto m) [] (λ t u c.
        let h : u < m = in_upto m u c in let r = rank_low n f.accepted free u h in
        search_fuel (next n) (λ p. p < m) (rank_of n f.accepted free) (visits_fall n f.accepted free) (suc m) m t u h (omega (arith, r)) r)

    events_are : events_of w (2 * m) k ≡ events n
    unfolding goes_to
    events_are =
        let q : i ≡ m = omega (arith, s.inside, l) in
        s.events_so_far ∙ ap (λ (j : ℕ). over (explore_at (next n) m) [] (upto j)) q ∙ order_is

    pub through_ends : InOrder (tables kinds starts list pins nets) v w
    through_ends = record {
      free = (loop_iff n f.accepted).1 free;
      written = sym (ap (events_of w (2 * m)) count_is) ∙ events_are;
      marks = λ q h. omega (arith, s.going.marks q h, all_in_lem q h, flat.balanced q, open_once (goes_to n) [] (events_of w (2 * m) k) flat q);
      kept = s.kept;
    }
