-- All events one after the other, in the code's shape.
use mathlib.Core.Path.{◌≡◌, refl, sym, ap, subst, ◌∙◌}
use mathlib.Core.List.{List, [], ◌∷◌}
use Prim.Native.Nat.{ℕ, zero, suc, ◌+◌, ◌*◌, ◌/◌, ◌%◌, ◌≤◌, ◌<◌}
use native.Mathlib.Omega.{arith}
use lib.ListN.{length, get_or, take, drop, take-append-drop}
use lib.Seq.{take_all}
use borrow.Author.Tests.{eq-eqb, ne_eqb}
use Rattle.laws.specs.Lists.{over}
use Rattle.laws.specs.Search.{Event, enter, leave}
use Rattle.laws.proofs.Tests.{one_eq}
use Rattle.laws.proofs.Folds.{over-append}
use Rattle.laws.proofs.Events.{ins, outs, proper_within}
use Rattle.rules.specs.declared.Tally.{Tally}
use Rattle.rules.specs.declared.Rooms.{Rooms}
use Rattle.rules.specs.Netlist.{Netlist, size}
use Rattle.rules.specs.Build.{Build, events, next, act, start2, step1, step2}
use Rattle.rules.specs.Refusals.{Accepted}
use Rattle.rules.proofs.Tables.{clash}
use Rattle.orders.specs.State.{event_of}
use Rattle.builds.proofs.Sizes.{Longer, acts_longer}
use Rattle.builds.proofs.Steps.{visited, inside}
use Rattle.std.specs.Prelude.{Some, None}
use Rattle.drafts.specs.declared.Draft.{Draft}
use Rattle.drafts.specs.Table.{SameLoans}
use Rattle.drafts.proofs.Drafting.{loans_refl, loans_trans}
use Rattle.visits.specs.Drafting.{Drafting, Listed, Over, pins_over, outputs_over, dffs_over, rams_over, Moved, moved, stuck, Before, ready, Visiting, visiting, event_at, state_at, IsVisiting, Moves}

-- ---- the pin of an event
enter_at : (es : List Event) (i p : ℕ) → i < length es → get_or es i (enter 0) ≡ enter p → 0 < ins p es
enter_at [] i p l e = absurd (omega arith)
enter_at (enter u ∷ es) zero p l e = let q : p ≡ u = cc in omega (arith, one_eq p u q)
enter_at (leave u ∷ es) zero p l e = clash (cc)
enter_at (enter u ∷ es) (suc i) p l e = omega (arith, enter_at es i p (omega (arith, l)) e)
enter_at (leave u ∷ es) (suc i) p l e = enter_at es i p (omega (arith, l)) e

leave_at : (es : List Event) (i p : ℕ) → i < length es → get_or es i (enter 0) ≡ leave p → 0 < outs p es
leave_at [] i p l e = absurd (omega arith)
leave_at (enter u ∷ es) zero p l e = clash (cc)
leave_at (leave u ∷ es) zero p l e = let q : p ≡ u = cc in omega (arith, one_eq p u q)
leave_at (enter u ∷ es) (suc i) p l e = leave_at es i p (omega (arith, l)) e
leave_at (leave u ∷ es) (suc i) p l e = omega (arith, leave_at es i p (omega (arith, l)) e)

module _ (n : Netlist) (acc : Accepted n) (i p : ℕ) (l : i < length (events n)) where
  enter_below : event_at n i ≡ enter p → p < size n
  unfolding event_at
  enter_below e = inside n acc p (enter_at (events n) i p l e)

  leave_below : event_at n i ≡ leave p → p < size n
  unfolding event_at
  leave_below e = inside n acc p (omega (arith, proper_within (next n) (events n) [] [] p (visited n acc).0 (leave_at (events n) i p l e)))

-- ---- one event
module _ (n : Netlist) (rm : Rooms) (w ws os : List ℕ) (t : Tally) (at i v : ℕ) where
  pub leaves_next : Visiting n rm w ws os t at i → i < 2 * size n → v ≡ get_or w (2 * size n + i) 0 → v % 2 ≡ 1 → Before n rm w ws os t at i (v / 2) (leave (v / 2))
  leaves_next (visiting f a c d ls ea) l e odd =
      let is : event_at n i ≡ leave (v / 2) = sym (ap event_of e ∙ d.order i l) ∙ rw (eq-eqb (v % 2) 1 odd) in
      let li : i < length (events n) = omega (arith, l, c) in
      ready f a d ls ea li is (leave_below n a i (v / 2) li is)

  pub enters_next : Visiting n rm w ws os t at i → i < 2 * size n → v ≡ get_or w (2 * size n + i) 0 → (v % 2 ≡ 1 → ⊥) → Before n rm w ws os t at i (v / 2) (enter (v / 2))
  enters_next (visiting f a c d ls ea) l e even =
      let is : event_at n i ≡ enter (v / 2) = sym (ap event_of e ∙ d.order i l) ∙ rw (ne_eqb (v % 2) 1 even) in
      let li : i < length (events n) = omega (arith, l, c) in
      ready f a d ls ea li is (enter_below n a i (v / 2) li is)

-- ---- all of them
rest_of_lem : (es : List Event) (i : ℕ) (n : Netlist) (s : Build) → over (act n) s es ≡ over (act n) (over (act n) s (take i es)) (drop i es)
rest_of_lem es i n s = ap (over (act n) s) (sym (take-append-drop i es)) ∙ over-append (act n) s (take i es) (drop i es)

later : (n : Netlist) (i : ℕ) → Longer (state_at n i) (step2 n)
unfolding state_at step2
later n i = subst (Longer (over (act n) (start2 (step1 n)) (take i (events n)))) (sym (rest_of_lem (events n) i n (start2 (step1 n))))
    (acts_longer n (drop i (events n)) (over (act n) (start2 (step1 n)) (take i (events n))))

over_later : (n : Netlist) (rm : Rooms) (i : ℕ) → Over rm (state_at n i) → Over rm (step2 n)
over_later n rm i (pins_over l) = pins_over (omega (arith, l, (later n i).pins.longer))
over_later n rm i (outputs_over l) = outputs_over (omega (arith, l, (later n i).outputs))
over_later n rm i (dffs_over l) = dffs_over (omega (arith, l, (later n i).dffs))
over_later n rm i (rams_over l) = rams_over (omega (arith, l, (later n i).rams))

-- what a step leaves that fits
record Kept (n : Netlist) (rm : Rooms) (b : Build) (w w' ws' os' : List ℕ) (t : Tally) : Type 0 where
  draft : Drafting n rm w' ws' t b
  listed : Listed rm os' b
  long : length w' ≡ length w

kept : (n : Netlist) (rm : Rooms) (b : Build) (w ws os w' ws' os' : List ℕ) (t : Tally) → Moved n rm b w ws os w' ws' os' (Some t) → Kept n rm b w w' ws' os' t
kept n rm b w ws os w' ws' os' t (moved v y d l k) =
    let q : v ≡ t = cc in subst (Kept n rm b w w' ws' os') q (record { draft = d; listed = l; long = k })
kept n rm b w ws os w' ws' os' t (stuck y o a c e) = let q : Some t ≡ None = y in clash (cc)

-- all before event i is there, in the tables that were lent
pub record VisitingSince (n : Netlist) (rm : Rooms) (d₀ d : Draft) (os : List ℕ) (i : ℕ) : Type 0 where
  pub loans : SameLoans d₀ d
  pub visiting : IsVisiting n rm d os i
  pub words : length d.work.now ≡ length d₀.work.now
  pub drivers : length d.drivers.now ≡ length d₀.drivers.now

pub visits_begin : (n : Netlist) (rm : Rooms) (d : Draft) (os : List ℕ) (i : ℕ) → IsVisiting n rm d os i → VisitingSince n rm d d os i
visits_begin n rm d os i v = record { loans = loans_refl d; visiting = v; words = refl; drivers = refl }

module _ (n : Netlist) (rm : Rooms) (d₀ d : Draft) (os : List ℕ) (i : ℕ) (v : VisitingSince n rm d₀ d os i) where
  go_on : IsVisiting n rm d os i → (d' : Draft) (os' : List ℕ) → Moves n rm (state_at n (i + 1)) d os d' os' (Some tt)
      → Visiting n rm d'.work.now d'.drivers.now os' d'.tally d.at (i + 1) × (length d'.work.now ≡ length d.work.now) × (length d'.drivers.now ≡ length d.drivers.now)
  go_on (visiting f a c d₁ ls ea) d' os' m =
      let k = kept n rm (state_at n (i + 1)) d.work.now d.drivers.now os d'.work.now d'.drivers.now os' d'.tally m.moved in
      (visiting f a c k.draft k.listed ea, k.long, k.draft.long ∙ sym d₁.long)

  pub visits_go_on : (d' : Draft) (os' : List ℕ) → Moves n rm (state_at n (i + 1)) d os d' os' (Some tt) → VisitingSince n rm d₀ d' os' (i + 1)
  visits_go_on d' os' m =
      let k = go_on v.visiting d' os' m in
      record {
        loans = loans_trans v.loans m.loans;
        visiting = subst (λ (x : ℕ). Visiting n rm d'.work.now d'.drivers.now os' d'.tally x (i + 1)) (sym m.loans.place) k.0;
        words = k.1 ∙ v.words;
        drivers = k.2 ∙ v.drivers;
      }

  module _ (os₀ : List ℕ) (los : length os ≡ length os₀) where
    stop : (d' : Draft) (os' : List ℕ) → Moved n rm (state_at n (i + 1)) d.work.now d.drivers.now os d'.work.now d'.drivers.now os' None
        → Moved n rm (step2 n) d₀.work.now d₀.drivers.now os₀ d'.work.now d'.drivers.now os' None
    stop d' os' (moved t y e l k) = let q : None ≡ Some t = y in clash (cc)
    stop d' os' (stuck y o a b c) = stuck y (over_later n rm (i + 1) o) (a ∙ v.words) (b ∙ v.drivers) (c ∙ los)

    pub visits_stop : (d' : Draft) (os' : List ℕ) → Moves n rm (state_at n (i + 1)) d os d' os' None → Moves n rm (step2 n) d₀ os₀ d' os' None
    visits_stop d' os' m = record { loans = loans_trans v.loans m.loans; moved = stop d' os' m.moved }

    end : IsVisiting n rm d os i → 2 * size n ≤ i → Moved n rm (step2 n) d₀.work.now d₀.drivers.now os₀ d.work.now d.drivers.now os (Some d.tally)
    unfolding state_at step2
    end (visiting f a c e ls ea) l =
        let s : state_at n i ≡ step2 n = ap (over (act n) (start2 (step1 n))) (take_all i (events n) (omega (arith, c, l))) in
        moved d.tally refl (subst (Drafting n rm d.work.now d.drivers.now d.tally) s e) (subst (Listed rm os) s ls) v.words

    pub visits_end : 2 * size n ≤ i → Moves n rm (step2 n) d₀ os₀ d os (Some tt)
    visits_end l = record { loans = v.loans; moved = end v.visiting l }
