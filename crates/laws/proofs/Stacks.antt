-- A search with a stack of places: finishing it is the search of them in turn, and a way back shows as a place met while on it.
use mathlib.Core.Path.{◌≡◌, refl, sym, ◌∙◌, ap, subst}
use mathlib.Core.List.{List, [], ◌∷◌, ◌++◌}
use Prim.Native.Nat.{ℕ, zero, suc, ◌+◌, ◌-◌, ◌≤◌, ◌<◌}
use native.Mathlib.Numerals.{add-one}
use native.Mathlib.Omega.{arith}
use lib.ListN.{length, get_or, set}
use lib.Seq.{get_or-set_same, get_or-set_other}
use Rattle.laws.specs.Lists.{count, over}
use Rattle.laws.specs.Search.{Event, explore, Chain}
use Rattle.laws.specs.Search.Event.{enter, leave}
use Rattle.laws.specs.Search.Chain.{step}
use Rattle.laws.specs.Words.{stack_of}
use Rattle.laws.proofs.Tests.{one_eq}
use Rattle.laws.proofs.Bags.{count_other, in_right, at_head, here}
use Rattle.laws.proofs.Folds.{over_idle}
use Rattle.laws.proofs.Visits.{visit_at, visit_again, visit_done, visit_ahead}
use Rattle.laws.proofs.Loops.{on}
use Rattle.laws.proofs.Events.{ins, outs, ins_append, outs_append, Proper, proper_enter, proper_leave, proper_ins, no_loop_left, grows_ins, explore_has, explore_again, explore_new, explores_skip, Apart}

-- ---- a stack of words that lies from m on
pub stack_same : (v w : List ℕ) (m h : ℕ) → ((j : ℕ) → j < h → get_or v (m + j) 0 ≡ get_or w (m + j) 0) → stack_of v m h ≡ stack_of w m h
unfolding stack_of
stack_same v w m zero e = refl
stack_same v w m (suc h) e = λ i. e h (omega arith) i ∷ stack_same v w m h (λ j l. e j (omega arith)) i

pub stack_none : (w : List ℕ) (m : ℕ) → stack_of w m 0 ≡ []
unfolding stack_of
stack_none w m = refl

pub stack_push : (w : List ℕ) (m h : ℕ) → stack_of w m (h + 1) ≡ get_or w (m + h) 0 ∷ stack_of w m h
unfolding stack_of
stack_push w m h = ap (stack_of w m) (add-one h)

pub stack_top : (w : List ℕ) (m h : ℕ) → 0 < h → stack_of w m h ≡ get_or w (m + h - 1) 0 ∷ stack_of w m (h - 1)
unfolding stack_of
stack_top w m zero p = absurd (omega arith)
stack_top w m (suc h) p =
    let a : m + h ≡ m + suc h - 1 = omega arith in
    let b : h ≡ suc h - 1 = omega arith in
    λ i. get_or w (a i) 0 ∷ stack_of w m (b i)

pub stack_length : (w : List ℕ) (m h : ℕ) → length (stack_of w m h) ≡ h
unfolding stack_of
stack_length w m zero = refl
stack_length w m (suc h) = ap suc (stack_length w m h)

-- a store of the next word pushes it; a store outside the stack leaves it
pub stack_pushed : (w : List ℕ) (m h x : ℕ) → m + h < length w → stack_of (set w (m + h) x) m (h + 1) ≡ x ∷ stack_of w m h
stack_pushed w m h x l = stack_push (set w (m + h) x) m h
    ∙ λ i. get_or-set_same w (m + h) x 0 l i ∷ stack_same (set w (m + h) x) w m h (λ j b. get_or-set_other w (m + h) (m + j) x 0 (omega arith)) i

pub stack_apart : (w : List ℕ) (m h i x : ℕ) → ((j : ℕ) → j < h → m + j ≡ i → ⊥) → stack_of (set w i x) m h ≡ stack_of w m h
stack_apart w m h i x n = stack_same (set w i x) w m h (λ j l. get_or-set_other w i (m + j) x 0 (n j l))

-- each word of a stack that lies below a bound
pub stack_below : (w : List ℕ) (m h n : ℕ) → ((j : ℕ) → j < h → get_or w (m + j) 0 < n) → (p : ℕ) → 0 < count p (stack_of w m h) → p < n
unfolding stack_of
stack_below w m zero n b p c = absurd (omega arith)
stack_below w m (suc h) n b p c = at_head p (get_or w (m + h) 0) (stack_of w m h) c
    (λ e. omega (arith, b h (omega arith)))
    (λ c'. stack_below w m h n (λ j l. b j (omega arith)) p c')

-- ---- where places lead to smaller ones only. The stack's places grow from the top, which is at least lo, to the bottom, below m; none is listed
abbrev pub Grows : ℕ → List ℕ → ℕ → List ℕ → Type 0
Grows lo vis m [] = lo ≤ m
Grows lo vis m (x ∷ s) = (lo ≤ x) × (count x vis ≡ 0) × Grows (suc x) vis m s

pub grows_fits : (lo : ℕ) (vis : List ℕ) (m : ℕ) (s : List ℕ) → Grows lo vis m s → lo + length s ≤ m
grows_fits lo vis m [] g = omega arith
grows_fits lo vis m (x ∷ s) g = let r = grows_fits (suc x) vis m s g.2 in omega arith

-- a place below the top is listed: the stack keeps its order, and none of it is listed
pub grows_more : (lo lo' : ℕ) (vis : List ℕ) (m p : ℕ) (s : List ℕ) → p < lo → lo' ≤ lo → Grows lo vis m s → Grows lo' (vis ++ (p ∷ [])) m s
grows_more lo lo' vis m p [] h l g = omega arith
grows_more lo lo' vis m p (x ∷ s) h l g =
    (omega arith, count_other p x vis (omega arith) ∙ g.1, grows_more (suc x) (suc x) vis m p s (omega arith) (omega arith) g.2)

pub grows_push : (vis : List ℕ) (m o u : ℕ) (s : List ℕ) → o < u → count o vis ≡ 0 → Grows 0 vis m (u ∷ s) → Grows 0 vis m (o ∷ u ∷ s)
grows_push vis m o u s h n g = (omega arith, n, (omega arith, g.1, g.2))

pub grows_pop : (vis : List ℕ) (m u : ℕ) (s : List ℕ) → Grows 0 vis m (u ∷ s) → Grows 0 (vis ++ (u ∷ [])) m s
grows_pop vis m u s g = grows_more (suc u) 0 vis m u s (omega arith) (omega arith) g.2

-- finishing the stack is the visit of its places in turn: the three turns leave what it leads to
module _ (nx : ℕ → List ℕ) (below : (u o : ℕ) → 0 < count o (nx u) → o < u) (out : List ℕ) (u : ℕ) (s : List ℕ) where
  pub turn_old : 0 < count u out → over (visit_at nx) out (u ∷ s) ≡ over (visit_at nx) out s
  turn_old m = ap (λ (z : List ℕ). over (visit_at nx) z s) (visit_again nx below out u m)

  pub turn_done : count u out ≡ 0 → ((o : ℕ) → 0 < count o (nx u) → 0 < count o out) → over (visit_at nx) (out ++ (u ∷ [])) s ≡ over (visit_at nx) out (u ∷ s)
  turn_done n h = sym (ap (λ (z : List ℕ). over (visit_at nx) z s) (visit_done nx below out u n h))

  pub turn_ahead : (bs : List ℕ) (o : ℕ) (os : List ℕ) → nx u ≡ bs ++ (o ∷ os) → count u out ≡ 0 → ((p : ℕ) → 0 < count p bs → 0 < count p out)
      → over (visit_at nx) out (o ∷ u ∷ s) ≡ over (visit_at nx) out (u ∷ s)
  turn_ahead bs o os e n h = ap (λ (z : List ℕ). over (visit_at nx) z s) (visit_ahead nx below out u bs o os e n h)

-- ---- where they may lead anywhere: the stack's places are those that were entered and not left
module _ (nx : ℕ → List ℕ) where
  -- each place of the stack leads to each above it
  abbrev pub Ways : List ℕ → Type 0
  Ways [] = Unit {0}
  Ways (u ∷ s) = ((w : ℕ) → 0 < count w s → Chain nx w u) × Ways s

  pub ways_push : (o u : ℕ) (s : List ℕ) → 0 < count o (nx u) → Ways (u ∷ s) → Ways (o ∷ u ∷ s)
  ways_push o u s m k = ((λ w c. at_head w u s c (λ e. subst (λ (x : ℕ). Chain nx x o) (sym e) (step m)) (λ c'. on nx o (k.0 w c') m)), k)

  -- so a place that the top leads to and that is on the stack lies on a way back to itself
  pub ways_loop : (o u : ℕ) (s : List ℕ) → 0 < count o (nx u) → 0 < count o (u ∷ s) → Ways (u ∷ s) → Chain nx o o
  ways_loop o u s m c k = (ways_push o u s m k).0 o c

  -- between turns: events in a proper order, the open places are the stack's, and each leads to those above it
  pub record Open (s : List ℕ) (out : List Event) : Type 0 where
    pub proper : Proper nx [] [] out
    pub balanced : (p : ℕ) → ins p out ≡ outs p out + count p s
    pub ways : Ways s

  pub open_start : Open [] []
  open_start = record { proper = tt; balanced = λ p. omega arith; ways = tt }

  entering : (o : ℕ) (s : List ℕ) (out : List Event) → Open s out → ins o out ≡ 0 → Ways (o ∷ s) → Open (o ∷ s) (out ++ (enter o ∷ []))
  entering o s out g z k = record {
    proper = proper_enter nx out [] [] o g.proper (omega arith);
    balanced = λ p. omega (arith, g.balanced p, ins_append p out (enter o ∷ []), outs_append p out (enter o ∷ []));
    ways = k;
  }

  -- a search begins
  pub open_root : (u : ℕ) (out : List Event) → Open [] out → ins u out ≡ 0 → Open (u ∷ []) (out ++ (enter u ∷ []))
  open_root u out g z = entering u [] out g z ((λ w c. absurd (omega arith)), tt)

  -- a turn goes on to a place that was not entered
  pub open_push : (o u : ℕ) (s : List ℕ) (out : List Event) → Open (u ∷ s) out → 0 < count o (nx u) → ins o out ≡ 0 → Open (o ∷ u ∷ s) (out ++ (enter o ∷ []))
  open_push o u s out g m z = entering o (u ∷ s) out g z (ways_push o u s m g.ways)

  -- or takes the top off, where all that it leads to was entered and none of it is open
  pub open_pop : (u : ℕ) (s : List ℕ) (out : List Event) → Open (u ∷ s) out → ((o : ℕ) → 0 < count o (nx u) → (0 < ins o out) × (count o (u ∷ s) ≡ 0)) → Open s (out ++ (leave u ∷ []))
  open_pop u s out g h =
      let e = g.balanced u in
      let i : ins u out ≤ 1 = omega (arith, proper_ins nx out [] [] u g.proper (omega arith)) in
      record {
        proper = proper_leave nx out [] [] u g.proper (omega (arith, one_eq u u refl)) (omega (arith, one_eq u u refl))
            (λ o m. omega (arith, (h o m).0, (h o m).1, g.balanced o));
        balanced = λ p. omega (arith, g.balanced p, ins_append p out (leave u ∷ []), outs_append p out (leave u ∷ []));
        ways = g.ways.1;
      }

  -- or meets an open place: there is a way back
  pub open_loop : (o u : ℕ) (s : List ℕ) (out : List Event) → Open (u ∷ s) out → 0 < count o (nx u) → 0 < count o (u ∷ s) → Chain nx o o
  open_loop o u s out g m c = ways_loop o u s m c g.ways

  -- and where the stack is empty, nothing that was entered lies on one
  pub open_free : (out : List Event) → Open [] out → (u : ℕ) → 0 < ins u out → Chain nx u u → ⊥
  open_free out g u m c = no_loop_left nx out g.proper u (omega (arith, m, g.balanced u)) c

  -- what is open and what was left, as marks tell them apart
  pub open_once : (s : List ℕ) (out : List Event) → Open s out → (p : ℕ) → outs p out + count p s ≤ 1
  open_once s out g p = omega (arith, g.balanced p, proper_ins nx out [] [] p g.proper (omega arith))

  -- each place is entered once at most
  pub open_apart : (n : ℕ) (s : List ℕ) (out : List Event) → Open s out → ((p : ℕ) → 0 < ins p out → p < n) → Apart n out
  open_apart n s out g b = ((λ p. omega (arith, proper_ins nx out [] [] p g.proper (omega arith))), b)

  -- ---- what is written once the stack is done
  abbrev pub resume : ℕ → List ℕ → List Event → List Event
  resume n [] out = out
  resume n (u ∷ s) out = resume n s (over (explore nx (suc n)) out (nx u) ++ (leave u ∷ []))

  module _ (n : ℕ) (closed : (u o : ℕ) → u < n → 0 < count o (nx u) → o < n) where
    -- a search of a place that was not entered
    pub resume_start : (u : ℕ) (out : List Event) → u < n → Apart n out → ins u out ≡ 0 → resume n (u ∷ []) (out ++ (enter u ∷ [])) ≡ explore nx (suc n) out u
    resume_start u out h a z = sym (explore_new nx n closed out u h a z)

    module _ (u : ℕ) (s : List ℕ) (out : List Event) where
      pub resume_pop : ((o : ℕ) → 0 < count o (nx u) → 0 < ins o out) → resume n s (out ++ (leave u ∷ [])) ≡ resume n (u ∷ s) out
      resume_pop h = sym (ap (λ (z : List Event). resume n s (z ++ (leave u ∷ []))) (over_idle (explore nx (suc n)) (nx u) out (λ o m. explore_again nx n out o (h o m))))

      pub resume_push : (bs : List ℕ) (o : ℕ) (os : List ℕ) → u < n → Apart n out → nx u ≡ bs ++ (o ∷ os) → ((p : ℕ) → 0 < count p bs → 0 < ins p out) → ins o out ≡ 0
          → resume n (o ∷ u ∷ s) (out ++ (enter o ∷ [])) ≡ resume n (u ∷ s) out
      resume_push bs o os h a e b z =
          let mo : 0 < count o (nx u) = subst (λ (l : List ℕ). 0 < count o l) (sym e) (in_right o bs (o ∷ os) (here o os)) in
          let x : List Event = explore nx (suc n) out o in
          ap (λ (t : List Event). resume n (u ∷ s) t) (sym (explore_new nx n closed out o (closed u o h mo) a z))
          ∙ ap (λ (t : List Event). resume n s (t ++ (leave u ∷ []))) (
          ap (over (explore nx (suc n)) x) e
          ∙ explores_skip nx n closed x bs (o ∷ os) (λ p m. omega (arith, b p m, grows_ins nx (suc n) out o p))
          ∙ ap (λ (t : List Event). over (explore nx (suc n)) t os) (explore_again nx n x o (explore_has nx n out o))
          ∙ sym (explores_skip nx n closed out bs (o ∷ os) b)
          ∙ sym (ap (over (explore nx (suc n)) out) e))
