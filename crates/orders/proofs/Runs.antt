-- The turns of one visit, in the code's shape.
use mathlib.Core.Path.{◌≡◌, refl, sym, ◌∙◌, ap, ap₂, subst}
use mathlib.Core.List.{List, [], ◌∷◌, ◌++◌}
use Prim.Native.Nat.{ℕ, ◌+◌, ◌-◌, ◌*◌, ◌<◌, ◌≤◌}
use native.Mathlib.Omega.{arith}
use lib.ListN.{length, get_or, set}
use Rattle.laws.specs.Words.{stack_of}
use Rattle.laws.specs.Search.{Event, enter}
use Rattle.laws.proofs.Events.{ins, explore_at, explore_again}
use Rattle.laws.proofs.Stacks.{stack_none, Open, open_root, resume, resume_start}
use Rattle.roles.specs.Reading.{tables, Fits}
use Rattle.std.specs.Prelude.{Result, Ok, Err}
use Rattle.rules.specs.declared.Refusal.{Refusal}
use Rattle.orders.specs.declared.Place.{Place}
use Rattle.orders.specs.State.{goes_to, events_of, Going, Kept, goal, PinEntered, LoopMet, Turned, Done, Finished, Visited}
use Rattle.orders.proofs.Looking.{goes_closed}
use Rattle.orders.proofs.Turns.{apart, going_pushed, pushed_stack, pushed-events, kept-pushed, below}

pub kept-none : (m : ℕ) (w : List ℕ) → Kept m w w
kept-none m w = record { rest = λ j h. refl }

pub kept_on : (m : ℕ) (u v w : List ℕ) → Kept m u v → Kept m v w → Kept m u w
kept_on m u v w a b = record { rest = λ j h. b.rest j h ∙ a.rest j h }

-- ---- the turns
pub record Running (nx : ℕ → List ℕ) (m : ℕ) (v : List ℕ) (h₀ k₀ : ℕ) (w : List ℕ) (h k : ℕ) : Type 0 where
  pub going : Going nx m w h k
  pub same : goal nx m w h k ≡ goal nx m v h₀ k₀
  pub kept : Kept m v w

pub run_begins : (nx : ℕ → List ℕ) (m : ℕ) (w : List ℕ) (h k : ℕ) → Going nx m w h k → Running nx m w h k w h k
run_begins nx m w h k g = record { going = g; same = refl; kept = kept-none m w }

module _ (nx : ℕ → List ℕ) (m : ℕ) (v : List ℕ) (h₀ k₀ : ℕ) (w : List ℕ) (h k : ℕ) (r : Running nx m v h₀ k₀ w h k) where
  pub run_ends : h ≤ 0 → Done nx m (goal nx m v h₀ k₀) v w k
  run_ends z =
      let e : h ≡ 0 = omega arith in
      let t : stack_of w m h ≡ [] = ap (stack_of w m) e ∙ stack_none w m in
      record {
        going = subst (λ (x : ℕ). Going nx m w x k) e r.going;
        written = sym (ap (λ (s : List ℕ). resume nx m s (events_of w (2 * m) k)) t) ∙ r.same;
        kept = r.kept;
      }

  pub run_finds : (w' : List ℕ) (e : Refusal) → LoopMet nx m w w' e → LoopMet nx m v w' e
  run_finds w' e l = record { refusal = l.refusal; pin = l.pin; inside = l.inside; chain = l.chain; kept = kept_on m v w w' r.kept l.kept }

  module _ (w' : List ℕ) (h' k' : ℕ) (t : Turned nx m w h k w' h' k') where
    pub run_goes_on : Running nx m v h₀ k₀ w' h' k'
    run_goes_on = record { going = t.going; same = t.same ∙ r.same; kept = kept_on m v w w' r.kept t.kept }

    pub run_falls : 2 * m - k' < 2 * m - k
    run_falls = omega (arith, t.more, t.going.room, t.going.most)

-- ---- one visit
module _ (kinds starts list pins nets w : List ℕ) (k u : ℕ) (f : Fits (tables kinds starts list pins nets))
    (g : Going (goes_to (tables kinds starts list pins nets)) (length list) w 0 k) (l : u < length list) where
  abbrev nx : ℕ → List ℕ
  nx = goes_to (tables kinds starts list pins nets)

  abbrev m : ℕ
  m = length list

  abbrev out : List Event
  out = events_of w (2 * m) k

  flat : Open nx [] out
  flat = subst (λ (s : List ℕ). Open nx s out) (stack_none w m) g.opened

  -- u was entered
  pub visit_again : (get_or w u 0 ≡ 0 → ⊥) → Done (goes_to (tables kinds starts list pins nets)) (length list)
      (explore_at (goes_to (tables kinds starts list pins nets)) (length list) (events_of w (2 * length list) k) u) w w k
  visit_again n = record { going = g; written = sym (explore_again nx m out u (omega (arith, g.marks u l, n, flat.balanced u))); kept = kept-none m w }

  module _ (z : get_or w u 0 ≡ 0) where
    new : ins u out ≡ 0
    new = omega (arith, g.marks u l, z)

    pub visit_room : k < 2 * length list
    visit_room = omega (arith, below nx m w 0 k g u l new, g.room)

    abbrev entered : List ℕ
    entered = set (set (set w u 1) (m + 0) u) (2 * m + k) (2 * u)

    opened : Open nx (u ∷ stack_of w m 0) (out ++ (enter u ∷ []))
    opened = rw (stack_none w m) (open_root nx u out flat new)

    begun : goal nx m entered 1 (k + 1) ≡ explore_at nx m out u
    begun = ap₂ (resume nx m) (pushed_stack nx m w 0 k g u l new ∙ ap (λ (s : List ℕ). u ∷ s) (stack_none w m)) (pushed-events nx m w 0 k g u l new)
        ∙ resume_start nx m (goes_closed kinds starts list pins nets f) u out l (apart nx m w 0 k g) new

    kept-begun : Kept m w entered
    kept-begun = kept-pushed nx m w 0 k g u l new

    -- by what the function that enters says
    module _ (v : List ℕ) (at at' : Place) (eh : at.height ≡ 0) (ek : at.count ≡ k) (p : PinEntered (length list) u at w v at') where
      words_are : v ≡ entered
      words_are = p.words ∙ ap₂ (λ (h : ℕ) (c : ℕ). set (set (set w u 1) (m + h) u) (2 * m + c) (2 * u)) eh ek

      pub visit_begins : Going (goes_to (tables kinds starts list pins nets)) (length list) v at'.height at'.count
      visit_begins = rw (words_are, p.higher, p.more, eh, ek) (going_pushed nx m w 0 k g u l new opened)

      whole : goal nx m v at'.height at'.count ≡ explore_at nx m out u
      whole = rw (words_are, p.higher, p.more, eh, ek) begun

      pub visit_ends : (w' : List ℕ) (r : Result ℕ Refusal) → Finished (goes_to (tables kinds starts list pins nets)) (length list) v at'.height at'.count w' r
          → Visited (goes_to (tables kinds starts list pins nets)) (length list) w k u w' r
      visit_ends w' (Ok k') d = record { going = d.going; written = d.written ∙ whole; kept = kept_on m w v w' (rw words_are kept-begun) d.kept }
      visit_ends w' (Err e) o = record { refusal = o.refusal; pin = o.pin; inside = o.inside; chain = o.chain; kept = kept_on m w v w' (rw words_are kept-begun) o.kept }
